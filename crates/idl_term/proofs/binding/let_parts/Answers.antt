use Rattle.std.proofs.Common.{arith, ◌≡◌, sym, ◌∙◌, length, get_or}
use Rattle.std.proofs.lemmas.Bool.Decides.{nat_tests}
use Rattle.idl_term.specs.code.Trees.{IsTree}
use Rattle.idl_term.proofs.TreesOfIds.{leaf_from, tree_at}
use Rattle.idl_term.proofs.BindingNames.{first_list, some_there, let_needs_two, let_needs_list, let_needs_binding, let_is_shaped, parts_of}
use Rattle.idl_term.proofs.binding.let_parts.Goals as goal

pub returns-then-items-ne2 : goal.returns-then-items-ne2
returns-then-items-ne2 c = let_needs_two c.args.sexprs.now c.args.items.now c.if-items-ne2.true

pub returns-in_default : goal.returns-in_default
returns-in_default c =
    let two : length c.args.items.now ≡ 2 = c.if-items-ne2.false in
    let tree : IsTree c.args.sexprs.now (get_or c.args.items.now 0 0) = tree_at c.args.sexprs.now c.args.items.now 0 c.requires (omega (arith, two)) in
    let is = leaf_from (λ s. s.now) c.args.sexprs.now (get_or c.args.items.now 0 0) c.items.result tree c.items.ensures c.in_default.is in
    let_needs_list c.args.sexprs.now c.args.items.now is.0 is.1 two is.2

pub returns-then-is_empty : goal.returns-then-is_empty
returns-then-is_empty c =
    let list = (first_list (λ s. s.now) c.args.sexprs.now c.args.items.now c.items.result c.in-Some.bindings c.requires c.if-items-ne2.false c.items.ensures c.in-Some.is) in
    let none_there : length c.in-Some.bindings.now ≡ 0 = grind (arith, nat_tests, c.is_empty.ensures, c.if-is_empty.true) in
    let_needs_binding c.args.sexprs.now c.args.items.now c.in-Some.bindings.now c.if-items-ne2.false list.is none_there

pub are_bindings-requires : goal.are_bindings-requires
are_bindings-requires c = (first_list (λ s. s.now) c.args.sexprs.now c.args.items.now c.items.result c.in-Some.bindings c.requires c.if-items-ne2.false c.items.ensures c.in-Some.is).trees

pub returns-then-not-branch : goal.returns-then-not-branch
returns-then-not-branch c =
    let list = (first_list (λ s. s.now) c.args.sexprs.now c.args.items.now c.items.result c.in-Some.bindings c.requires c.if-items-ne2.false c.items.ensures c.in-Some.is) in
    let_is_shaped c.args.sexprs.now c.args.items.now c.in-Some.bindings.now c.if-items-ne2.false list.is (some_there _ _ c.is_empty.ensures c.if-is_empty.false) ∙ sym c.in_ok-are_bindings.ensures ∙ c.if-not-branch.true

pub returns : goal.returns
returns c =
    let list = (first_list (λ s. s.now) c.args.sexprs.now c.args.items.now c.items.result c.in-Some.bindings c.requires c.if-items-ne2.false c.items.ensures c.in-Some.is) in
    parts_of c.args.sexprs.now c.args.items.now c.in-Some.bindings.now c.requires c.if-items-ne2.false list
    (let_is_shaped c.args.sexprs.now c.args.items.now c.in-Some.bindings.now c.if-items-ne2.false list.is (some_there _ _ c.is_empty.ensures c.if-is_empty.false) ∙ sym c.in_ok-are_bindings.ensures ∙ c.if-not-branch.false)
