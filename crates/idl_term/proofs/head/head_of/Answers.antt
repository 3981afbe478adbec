use Rattle.std.proofs.Common.{sym, ◌∙◌}
use Rattle.idl_term.specs.code.Trees.{tree_of}
use Rattle.idl_scope.specs.code.LocalNames.{scope_in}
use Rattle.idl_term.proofs.TreesOfIds.{list_from, leaf_from}
use Rattle.idl_term.proofs.HeadShapes.{head_symbol, head_list, head_other}
use Rattle.idl_term.proofs.head.head_of.Goals as goal

pub returns-in-Some : goal.returns-in-Some
returns-in-Some c =
    let tree = tree_of c.args.sexprs.now c.args.id in
    c.symbol_head.ensures ∙ sym (head_symbol (scope_in c.args.locals.now) tree c.in-Some.name.now (c.in-Some.ensures tree c.requires.meaning))

pub list_head-requires : goal.list_head-requires
list_head-requires c = (list_from (λ s. s.now) _ _ c.items.result c.in-Some-items.items c.requires.meaning c.items.ensures c.in-Some-items.is).trees

pub returns-in-Some-items : goal.returns-in-Some-items
returns-in-Some-items c = c.list_head.ensures ∙ sym (head_list _ _ _ (list_from (λ s. s.now) _ _ c.items.result c.in-Some-items.items c.requires.meaning c.items.ensures c.in-Some-items.is).is)

pub returns-in-None : goal.returns-in-None
returns-in-None c =
    let tree = tree_of c.args.sexprs.now c.args.id in
    let is = leaf_from (λ s. s.now) c.args.sexprs.now c.args.id c.items.result c.requires.meaning c.items.ensures c.in-None.is in
    sym (head_other (scope_in c.args.locals.now) tree is.0 is.1 is.2 (c.in_default.ensures tree c.requires.meaning))
