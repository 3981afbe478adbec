use Rattle.std.proofs.Common.{◌≡◌, ◌<◌, ◌^◌}
use Rattle.dtp_gen.specs.Draws.{AreDraws, state_after}
use Rattle.dtp_gen.proofs.draws.draws.Given as goal

abbrev pub invariant-draws : goal.invariant-draws
invariant-draws l = record {
  state : l.state ≡ state_after l.start l._i;
  small : l.state < 2 ^ 31;
  drawn : AreDraws l.start l._i l.draws.items;
}
