use Rattle.std.proofs.Common.{arith, ap, ◌≤◌, length}
use Rattle.stn_core.specs.RoundsNet.{Shown}
use Rattle.inc_paths.proofs.Networks.{kept_cut}
use Rattle.inc_paths.proofs.network.NetworkNet.retract.Goals as goal

pub invariant_of-self : goal.invariant_of-self
invariant_of-self c =
    let count = c.self.invariant.count in
    let shown = ap (λ (s : Shown). length s.literals) c.self.view_is in
    let le : c.args.mark.length ≤ length c.self.inside.ends.items = omega (arith, c.requires, shown, count) in
    rw (c.cut.ensures.points, c.cut.ensures.literals, c.cut.ensures.values, c.cut.ensures.trail, c.cut.ensures.ends) (kept_cut c.self.inside.points c.self.inside.arcs.points c.self.inside.arcs.literals c.self.inside.labels.values c.self.inside.labels.trail c.self.inside.ends.items c.self.invariant c.args.mark.length le)
