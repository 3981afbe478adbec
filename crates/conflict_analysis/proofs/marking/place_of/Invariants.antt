use Rattle.std.proofs.Common.{◌≢◌, ℕ, ◌<◌}
use Rattle.conflict_analysis.specs.code.Trails.{on_trail}
use Rattle.conflict_analysis.proofs.marking.place_of.Given as goal

abbrev pub invariant-loop-k : goal.invariant-loop-k
invariant-loop-k g l = record { none : (j : ℕ) → j < l.k → on_trail l.graph.trail j ≢ l.literal }
