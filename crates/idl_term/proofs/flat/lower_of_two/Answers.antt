use Rattle.std.proofs.Common.{sym, ◌∙◌}
use Rattle.idl_scope.specs.code.LocalNames.{scope_in}
use Rattle.idl_term.specs.code.Trees.{tree_of}
use Rattle.idl_term.proofs.FlatTerms.{leaves_of_two, may_refuse}
use Rattle.idl_term.proofs.TreesOfIds.{is_leaf, IsLeafOf}
use Rattle.idl_term.proofs.flat.lower_of_two.Goals as goal

pub returns-in_err-made-clause-makes : goal.returns-in_err-made-clause-makes
returns-in_err-made-clause-makes c =
    let t = c.args.sexprs.now in
    let scope = scope_in c.args.locals.now in
    let a = c.in-Some.first_leaf in
    let b = c.in-Some-leaf.second_leaf in
    let first : IsLeafOf t c.args.first a.0 a.1.now = is_leaf t c.args.first a.0 a.1.now c.requires.first (sym (c.in-Some.ensures (tree_of t c.args.first) c.requires.first)) in
    let second : IsLeafOf t c.args.second b.0 b.1.now = is_leaf t c.args.second b.0 b.1.now c.requires.second (sym (c.in-Some-leaf.ensures (tree_of t c.args.second) c.requires.second)) in
    let whole = leaves_of_two scope c.args.nodes.now c.in-Some-operator_at.operator (tree_of t c.args.head) (tree_of t c.args.first) (tree_of t c.args.second) a.0 b.0 a.1.now b.1.now c.in-Some-operator_at.ensures.0 c.in-Some-operator_at.ensures.1 first.is second.is in
    may_refuse c.args.nodes.now _ c.lower_leaves.new.nodes _ _ c.from_residual.result c.in_err-made.field-0.0 c.from_residual.ensures whole c.in_err-made.ensures.makes

pub returns-clause-makes : goal.returns-clause-makes
returns-clause-makes c =
    let t = c.args.sexprs.now in
    let scope = scope_in c.args.locals.now in
    let a = c.in-Some.first_leaf in
    let b = c.in-Some-leaf.second_leaf in
    let first : IsLeafOf t c.args.first a.0 a.1.now = is_leaf t c.args.first a.0 a.1.now c.requires.first (sym (c.in-Some.ensures (tree_of t c.args.first) c.requires.first)) in
    let second : IsLeafOf t c.args.second b.0 b.1.now = is_leaf t c.args.second b.0 b.1.now c.requires.second (sym (c.in-Some-leaf.ensures (tree_of t c.args.second) c.requires.second)) in
    let whole = leaves_of_two scope c.args.nodes.now c.in-Some-operator_at.operator (tree_of t c.args.head) (tree_of t c.args.first) (tree_of t c.args.second) a.0 b.0 a.1.now b.1.now c.in-Some-operator_at.ensures.0 c.in-Some-operator_at.ensures.1 first.is second.is in
    whole ∙ c.in_ok-made.ensures.makes
