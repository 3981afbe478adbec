use Rattle.std.proofs.Common.{sym, ◌∙◌, Err, Ok}
use Rattle.idl_scope.specs.Scopes.{shown_term}
use Rattle.idl_scope.specs.code.LocalNames.{scope_in}
use Rattle.idl_term.specs.Lowered.{lowered_leaf}
use Rattle.idl_term.specs.code.Trees.{tree_of}
use Rattle.idl_term.proofs.FlatTerms.{leaf_of_one, one_made, refused_one, may_refuse}
use Rattle.idl_term.proofs.TreesOfIds.{is_leaf, IsLeafOf}
use Rattle.idl_term.proofs.flat.lower_of_one.Goals as goal

pub returns-in_err-argument-clause-makes : goal.returns-in_err-argument-clause-makes
returns-in_err-argument-clause-makes c =
    let t = c.args.sexprs.now in
    let scope = scope_in c.args.locals.now in
    let old = c.args.nodes.now in
    let o = c.in-Some-operator_at.operator in
    let leaf : IsLeafOf t c.args.only c.in-Some.kind c.in-Some.text.now = is_leaf t c.args.only c.in-Some.kind c.in-Some.text.now c.requires.only (sym (c.in-Some.ensures (tree_of t c.args.only) c.requires.only)) in
    let whole = leaf_of_one scope old o (tree_of t c.args.head) (tree_of t c.args.only) c.in-Some.kind c.in-Some.text.now c.in-Some-operator_at.ensures.0 c.in-Some-operator_at.ensures.1 leaf.is in
    let first = lowered_leaf scope old c.in-Some.kind c.in-Some.text.now in
    may_refuse old _ c.lower_leaf.new.nodes _ _ c.from_residual.result c.in_err-argument.field-0.0 c.from_residual.ensures whole (refused_one o c.lower_leaf.new.nodes c.lower_leaf.new.nodes first c.in_err-argument.field-0.0 c.in_err-argument.ensures.makes)

pub returns-in_err-made-clause-makes : goal.returns-in_err-made-clause-makes
returns-in_err-made-clause-makes c =
    let t = c.args.sexprs.now in
    let scope = scope_in c.args.locals.now in
    let old = c.args.nodes.now in
    let o = c.in-Some-operator_at.operator in
    let leaf : IsLeafOf t c.args.only c.in-Some.kind c.in-Some.text.now = is_leaf t c.args.only c.in-Some.kind c.in-Some.text.now c.requires.only (sym (c.in-Some.ensures (tree_of t c.args.only) c.requires.only)) in
    let whole = leaf_of_one scope old o (tree_of t c.args.head) (tree_of t c.args.only) c.in-Some.kind c.in-Some.text.now c.in-Some-operator_at.ensures.0 c.in-Some-operator_at.ensures.1 leaf.is in
    let first = lowered_leaf scope old c.in-Some.kind c.in-Some.text.now in
    may_refuse old _ c.apply_to_one.new.nodes _ _ c.from_residual-in_err-made.result c.in_err-made.field-0.0 c.from_residual-in_err-made.ensures whole
    (one_made o c.apply_to_one.new.nodes c.lower_leaf.new.nodes first (shown_term c.in_ok-argument.argument) (Err c.in_err-made.field-0.0) c.in_ok-argument.ensures.makes c.in_err-made.ensures.makes)

pub returns-clause-makes : goal.returns-clause-makes
returns-clause-makes c =
    let t = c.args.sexprs.now in
    let scope = scope_in c.args.locals.now in
    let old = c.args.nodes.now in
    let o = c.in-Some-operator_at.operator in
    let leaf : IsLeafOf t c.args.only c.in-Some.kind c.in-Some.text.now = is_leaf t c.args.only c.in-Some.kind c.in-Some.text.now c.requires.only (sym (c.in-Some.ensures (tree_of t c.args.only) c.requires.only)) in
    let whole = leaf_of_one scope old o (tree_of t c.args.head) (tree_of t c.args.only) c.in-Some.kind c.in-Some.text.now c.in-Some-operator_at.ensures.0 c.in-Some-operator_at.ensures.1 leaf.is in
    let first = lowered_leaf scope old c.in-Some.kind c.in-Some.text.now in
    whole ∙ one_made o c.apply_to_one.new.nodes c.lower_leaf.new.nodes first (shown_term c.in_ok-argument.argument) (Ok c.in_ok-made.made) c.in_ok-argument.ensures.makes c.in_ok-made.ensures.makes
