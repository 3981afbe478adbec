use Rattle.branch_search.proofs.Splits.{after_proved}
use Rattle.branch_search.proofs.state.State.search.Goals as goal

pub returns-then-is_to_pause-clause-found : goal.returns-then-is_to_pause-clause-found
returns-then-is_to_pause-clause-found g c = (
  c.is_to_pause.ensures c.if-is_to_pause.true,
  after_proved c.args.task.now c.vivify.new.self.own.items _ _ _ _ c.in_ok-found-2.ensures.after,
)
