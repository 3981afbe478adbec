use Rattle.std.proofs.Common.{◌≡◌, length}
use Rattle.kept_schedule.proofs.kept.KeptSchedule.satisfying.Given as goal

abbrev pub invariant-loop-round : goal.invariant-loop-round
invariant-loop-round l = record { room : length l.self.marks.items ≡ length l.nodes }
