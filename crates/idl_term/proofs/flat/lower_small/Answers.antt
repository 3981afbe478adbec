use Rattle.std.proofs.Common.{arith, ap, sym, ◌∙◌, ◌≡◌, length}
use Rattle.idl_scope.specs.code.LocalNames.{scope_in}
use Rattle.idl_term.specs.Lowered.{lowered_list}
use Rattle.idl_term.specs.code.Trees.{tree_of, trees_of}
use Rattle.idl_term.proofs.FlatTerms.{may_refuse, may_same}
use Rattle.idl_term.proofs.ListSteps.{lowered_of_leaf, lowered_of_list}
use Rattle.idl_term.proofs.TreesOfIds.{is_leaf, IsLeafOf, list_from, IsListOf, tree_at, two_trees, three_trees}
use Rattle.idl_term.proofs.flat.lower_small.Goals as goal

pub returns-in_err-made-clause-makes : goal.returns-in_err-made-clause-makes
returns-in_err-made-clause-makes c =
    let t = c.args.sexprs.now in
    let leaf : IsLeafOf t c.args.id c.in-Some.kind c.in-Some.text.now = is_leaf t c.args.id c.in-Some.kind c.in-Some.text.now c.requires.tree (sym (c.in-Some.ensures (tree_of t c.args.id) c.requires.tree)) in
    let same = lowered_of_leaf (scope_in c.args.locals.now) c.args.nodes.now (tree_of t c.args.id) c.in-Some.kind c.in-Some.text.now leaf.is in
    may_refuse c.args.nodes.now _ c.lower_leaf.new.nodes _ _ c.from_residual.result c.in_err-made.field-0.0 c.from_residual.ensures same c.in_err-made.ensures.makes

pub returns-in-Some-clause-makes : goal.returns-in-Some-clause-makes
returns-in-Some-clause-makes c =
    let t = c.args.sexprs.now in
    let leaf : IsLeafOf t c.args.id c.in-Some.kind c.in-Some.text.now = is_leaf t c.args.id c.in-Some.kind c.in-Some.text.now c.requires.tree (sym (c.in-Some.ensures (tree_of t c.args.id) c.requires.tree)) in
    let same = lowered_of_leaf (scope_in c.args.locals.now) c.args.nodes.now (tree_of t c.args.id) c.in-Some.kind c.in-Some.text.now leaf.is in
    same ∙ c.in_ok-made.ensures.makes

pub lower_of_one-requires-clause-head : goal.lower_of_one-requires-clause-head
lower_of_one-requires-clause-head c =
    let t = c.args.sexprs.now in
    let ids = c.in-Some-len2.field-0.now in
    let list : IsListOf t c.args.id ids = list_from (λ s. s.now) t c.args.id c.items.result c.in-Some-len2.field-0 c.requires.tree c.items.ensures c.in-Some-len2.is in
    tree_at t ids 0 list.trees (omega (arith, c.in-Some-len2.len_at_least))

pub lower_of_one-requires-clause-only : goal.lower_of_one-requires-clause-only
lower_of_one-requires-clause-only c =
    let t = c.args.sexprs.now in
    let ids = c.in-Some-len2.field-0.now in
    let list : IsListOf t c.args.id ids = list_from (λ s. s.now) t c.args.id c.items.result c.in-Some-len2.field-0 c.requires.tree c.items.ensures c.in-Some-len2.is in
    tree_at t ids 1 list.trees (omega (arith, c.in-Some-len2.len_at_least))

pub lower_of_two-requires-clause-head : goal.lower_of_two-requires-clause-head
lower_of_two-requires-clause-head c =
    let t = c.args.sexprs.now in
    let ids = c.in-Some-len3.field-0.now in
    let list : IsListOf t c.args.id ids = list_from (λ s. s.now) t c.args.id c.items.result c.in-Some-len3.field-0 c.requires.tree c.items.ensures c.in-Some-len3.is in
    tree_at t ids 0 list.trees (omega (arith, c.in-Some-len3.len_at_least))

pub lower_of_two-requires-clause-first : goal.lower_of_two-requires-clause-first
lower_of_two-requires-clause-first c =
    let t = c.args.sexprs.now in
    let ids = c.in-Some-len3.field-0.now in
    let list : IsListOf t c.args.id ids = list_from (λ s. s.now) t c.args.id c.items.result c.in-Some-len3.field-0 c.requires.tree c.items.ensures c.in-Some-len3.is in
    tree_at t ids 1 list.trees (omega (arith, c.in-Some-len3.len_at_least))

pub lower_of_two-requires-clause-second : goal.lower_of_two-requires-clause-second
lower_of_two-requires-clause-second c =
    let t = c.args.sexprs.now in
    let ids = c.in-Some-len3.field-0.now in
    let list : IsListOf t c.args.id ids = list_from (λ s. s.now) t c.args.id c.items.result c.in-Some-len3.field-0 c.requires.tree c.items.ensures c.in-Some-len3.is in
    tree_at t ids 2 list.trees (omega (arith, c.in-Some-len3.len_at_least))

pub returns-in-Some-len2-clause-makes : goal.returns-in-Some-len2-clause-makes
returns-in-Some-len2-clause-makes c =
    let t = c.args.sexprs.now in
    let ids = c.in-Some-len2.field-0.now in
    let list : IsListOf t c.args.id ids = list_from (λ s. s.now) t c.args.id c.items.result c.in-Some-len2.field-0 c.requires.tree c.items.ensures c.in-Some-len2.is in
    let scope = scope_in c.args.locals.now in
    let count : length c.in-Some-len2.field-0.now ≡ 2 = omega (arith, c.in-Some-len2.len_at_least, c.in-Some-len2.len_below) in
    may_same c.args.nodes.now c.lower_of_one.new.nodes _ _ c.lower_of_one.result
    (lowered_of_list scope c.args.nodes.now (tree_of t c.args.id) (trees_of t ids) list.is ∙ ap (lowered_list scope c.args.nodes.now) (two_trees t ids count)) c.lower_of_one.ensures.makes

pub returns-in-Some-len3-clause-makes : goal.returns-in-Some-len3-clause-makes
returns-in-Some-len3-clause-makes c =
    let t = c.args.sexprs.now in
    let ids = c.in-Some-len3.field-0.now in
    let list : IsListOf t c.args.id ids = list_from (λ s. s.now) t c.args.id c.items.result c.in-Some-len3.field-0 c.requires.tree c.items.ensures c.in-Some-len3.is in
    let scope = scope_in c.args.locals.now in
    let count : length c.in-Some-len3.field-0.now ≡ 3 = omega (arith, c.in-Some-len3.len_at_least, c.in-Some-len3.len_below) in
    may_same c.args.nodes.now c.lower_of_two.new.nodes _ _ c.lower_of_two.result
    (lowered_of_list scope c.args.nodes.now (tree_of t c.args.id) (trees_of t ids) list.is ∙ ap (lowered_list scope c.args.nodes.now) (three_trees t ids count)) c.lower_of_two.ensures.makes
