use Rattle.branch_search.proofs.Learned.{taken_search}
use Rattle.branch_search.proofs.state.State.take_learned.Goals as goal

pub returns-clause-state : goal.returns-clause-state
returns-clause-state g c = taken_search c.args.task.now _ _ _ _ c.in_ok-take_unit.field-0 c.in_ok-take_unit.ensures.taken
