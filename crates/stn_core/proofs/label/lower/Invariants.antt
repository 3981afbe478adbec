use Rattle.std.proofs.Common.{length}
use Rattle.stn_core.specs.code.Rounds.{IsRound, TellsLowered}
use Rattle.stn_core.proofs.label.lower.Given as goal

abbrev pub invariant-loop-literal : goal.invariant-loop-literal
invariant-loop-literal l = record {
  kept : IsRound (length l.fn.labels) l.literals l.labels l.round l.literal-index;
  some : TellsLowered (length l.fn.labels) l.labels l.round l.lowered;
}
