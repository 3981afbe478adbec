use Rattle.conflict_analysis.proofs.Passing.{has_more}
use Rattle.conflict_analysis.proofs.places.Places.push.Goals as goal

pub returns : goal.returns
returns c = rw (← c.self.view_is) (has_more _ _ c.args.place c.in_ok-push.ensures.permutation)
