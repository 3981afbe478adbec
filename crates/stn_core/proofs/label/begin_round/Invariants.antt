use Rattle.std.proofs.Common.{◌≡◌, ◌++◌, take, drop, map}
use Rattle.stn_core.specs.code.Rounds.{begun}
use Rattle.stn_core.proofs.label.begin_round.Given as goal

abbrev pub invariant-loop-label : goal.invariant-loop-label
invariant-loop-label l = l.labels ≡ map begun (take l.label-index l.initial.labels) ++ drop l.label-index l.initial.labels
