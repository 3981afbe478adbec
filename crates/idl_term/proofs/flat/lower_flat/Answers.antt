use Rattle.std.proofs.Common.{arith, ap, ◌∙◌, ◌≡◌, length}
use Rattle.idl_scope.specs.code.LocalNames.{scope_in}
use Rattle.idl_term.specs.Lowered.{lowered_list}
use Rattle.idl_term.specs.code.Trees.{tree_of, trees_of}
use Rattle.idl_term.proofs.FlatTerms.{may_same}
use Rattle.idl_term.proofs.ListSteps.{lowered_of_list}
use Rattle.idl_term.proofs.TreesOfIds.{list_from, IsListOf, tree_at, three_trees}
use Rattle.idl_term.proofs.flat.lower_flat.Goals as goal

pub lower_of_small-requires-clause-head : goal.lower_of_small-requires-clause-head
lower_of_small-requires-clause-head c =
    let t = c.args.sexprs.now in
    let ids = c.in-Some-len3.field-0.now in
    let list : IsListOf t c.args.id ids = list_from (λ s. s.now) t c.args.id c.items.result c.in-Some-len3.field-0 c.requires.tree c.items.ensures c.in-Some-len3.is in
    tree_at t ids 0 list.trees (omega (arith, c.in-Some-len3.len_at_least))

pub lower_of_small-requires-clause-first : goal.lower_of_small-requires-clause-first
lower_of_small-requires-clause-first c =
    let t = c.args.sexprs.now in
    let ids = c.in-Some-len3.field-0.now in
    let list : IsListOf t c.args.id ids = list_from (λ s. s.now) t c.args.id c.items.result c.in-Some-len3.field-0 c.requires.tree c.items.ensures c.in-Some-len3.is in
    tree_at t ids 1 list.trees (omega (arith, c.in-Some-len3.len_at_least))

pub lower_of_small-requires-clause-second : goal.lower_of_small-requires-clause-second
lower_of_small-requires-clause-second c =
    let t = c.args.sexprs.now in
    let ids = c.in-Some-len3.field-0.now in
    let list : IsListOf t c.args.id ids = list_from (λ s. s.now) t c.args.id c.items.result c.in-Some-len3.field-0 c.requires.tree c.items.ensures c.in-Some-len3.is in
    tree_at t ids 2 list.trees (omega (arith, c.in-Some-len3.len_at_least))

pub returns-in-Some-len3-clause-makes : goal.returns-in-Some-len3-clause-makes
returns-in-Some-len3-clause-makes c =
    let t = c.args.sexprs.now in
    let ids = c.in-Some-len3.field-0.now in
    let list : IsListOf t c.args.id ids = list_from (λ s. s.now) t c.args.id c.items.result c.in-Some-len3.field-0 c.requires.tree c.items.ensures c.in-Some-len3.is in
    let scope = scope_in c.args.locals.now in
    let count : length c.in-Some-len3.field-0.now ≡ 3 = omega (arith, c.in-Some-len3.len_at_least, c.in-Some-len3.len_below) in
    may_same c.args.nodes.now c.lower_of_small.new.nodes _ _ c.lower_of_small.result
    (lowered_of_list scope c.args.nodes.now (tree_of t c.args.id) (trees_of t ids) list.is ∙ ap (lowered_list scope c.args.nodes.now) (three_trees t ids count)) c.lower_of_small.ensures.makes
