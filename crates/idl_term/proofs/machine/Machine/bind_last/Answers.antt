use Rattle.std.proofs.Common.{sym, subst}
use Rattle.smt_sexpr.specs.Table.{HasItem}
use Rattle.idl_term.specs.code.Walks.{Walk}
use Rattle.idl_term.proofs.machine.Machine.bind_last.Goals as goal
use Rattle.idl_term.proofs.LetSteps.{binding_has}

pub item-variable-requires : goal.item-variable-requires
item-variable-requires c = subst (λ (w : Walk). HasItem w.table c.args.binding 0) (sym c.self.view_is) ((binding_has c.args.self.now.table c.args.binding c.requires.tree c.requires.binding).0)
