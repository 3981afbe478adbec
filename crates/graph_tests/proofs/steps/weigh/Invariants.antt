use Rattle.std.proofs.Common.{length}
use Rattle.graph_tests.proofs.steps.weigh.Given as goal

abbrev pub decreases-loop-step : goal.decreases-loop-step
decreases-loop-step l = length l.reader
