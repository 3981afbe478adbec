use Rattle.std.proofs.Common.{sym, subst}
use Rattle.idl_term.specs.code.Trees.{tree_of, IsTree}
use Rattle.idl_term.specs.code.Walks.{Walk}
use Rattle.idl_term.proofs.TreesOfIds.{is_leaf, list_from, IsLeafOf, IsListOf}
use Rattle.idl_term.proofs.ListSteps.{entered_leaf, entered_list}
use Rattle.idl_term.proofs.machine.Machine.enter.Goals as goal

pub returns-in-Some-leaf-clause-steps : goal.returns-in-Some-leaf-clause-steps
returns-in-Some-leaf-clause-steps c =
    let w = c.args.self.now in
    let t = c.self.inside.sexprs.now in
    let tree : IsTree t c.args.id = subst (λ (x : Walk). IsTree x.table c.args.id) (sym c.self.view_is) c.requires.tree in
    let leaf : IsLeafOf w.table c.args.id c.in-Some-leaf.kind c.in-Some-leaf.text.now = subst (λ (x : Walk). IsLeafOf x.table c.args.id c.in-Some-leaf.kind c.in-Some-leaf.text.now) c.self.view_is (is_leaf t c.args.id c.in-Some-leaf.kind c.in-Some-leaf.text.now tree (sym (c.in-Some-leaf.ensures (tree_of t c.args.id) tree))) in
    entered_leaf w _ _ _ c.args.id c.in-Some-leaf.kind c.in-Some-leaf.text.now _ leaf.is c.enter_leaf.ensures.steps

pub enter_list-requires-clause-trees : goal.enter_list-requires-clause-trees
enter_list-requires-clause-trees c =
    let t = c.self.inside.sexprs.now in
    let tree : IsTree t c.args.id = subst (λ (x : Walk). IsTree x.table c.args.id) (sym c.self.view_is) c.requires.tree in
    let list : IsListOf c.args.self.now.table c.args.id c.in-Some.items.now = subst (λ (x : Walk). IsListOf x.table c.args.id c.in-Some.items.now) c.self.view_is (list_from (λ s. s.now) t c.args.id c.items.result c.in-Some.items tree c.items.ensures c.in-Some.is) in
    list.trees

pub returns-in-Some-clause-steps : goal.returns-in-Some-clause-steps
returns-in-Some-clause-steps c =
    let w = c.args.self.now in
    let t = c.self.inside.sexprs.now in
    let tree : IsTree t c.args.id = subst (λ (x : Walk). IsTree x.table c.args.id) (sym c.self.view_is) c.requires.tree in
    let list : IsListOf w.table c.args.id c.in-Some.items.now = subst (λ (x : Walk). IsListOf x.table c.args.id c.in-Some.items.now) c.self.view_is (list_from (λ s. s.now) t c.args.id c.items.result c.in-Some.items tree c.items.ensures c.in-Some.is) in
    entered_list w _ c.args.nodes.now c.args.id c.in-Some.items.now _ list.is (c.enter_list.ensures c.args.nodes.now)
