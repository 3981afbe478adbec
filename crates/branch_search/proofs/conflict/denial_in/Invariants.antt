use Rattle.std.proofs.Common.{◌≢◌, ℕ, ◌<◌}
use Rattle.stn_core.specs.Literal.{literal_at}
use Rattle.branch_search.proofs.conflict.denial_in.Given as goal

abbrev pub invariant-loop-k : goal.invariant-loop-k
invariant-loop-k l = record { none : (j : ℕ) → j < l.k → literal_at l.cube j ≢ l.denial }
