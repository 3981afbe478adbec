use Rattle.std.proofs.Common.{subst}
use Rattle.stn_core.specs.Answer.{IsBest}
use Rattle.stn_core.specs.RoundsNet.{Shown}
use Rattle.inc_paths.proofs.Networks.{whole}
use Rattle.inc_paths.proofs.network.NetworkNet.schedule.Goals as goal

pub returns : goal.returns
returns c =
    subst (λ (s : Shown). IsBest s.points s.literals c.values.result.now) c.self.view_is
    (rw c.values.ensures (whole c.self.inside.points c.self.inside.arcs.points c.self.inside.arcs.literals c.self.inside.labels.values c.self.inside.labels.trail c.self.inside.ends.items c.self.invariant))
