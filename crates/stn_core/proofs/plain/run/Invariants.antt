use Rattle.stn_core.specs.code.Rounds.{IsRound, NoneLowered}
use Rattle.stn_core.proofs.plain.run.Given as goal

abbrev pub invariant-loop-round : goal.invariant-loop-round
invariant-loop-round l = record {
  ready : IsRound l.points l.literals l.labels l.round 0;
  none_lowered : NoneLowered l.points l.labels l.round;
}
