use Rattle.std.proofs.Common.{ℕ, [], ◌≡◌, ◌<◌, length, slice_index_or}
use Rattle.stn_core.specs.Literal.{literal_at}
use Rattle.better_schedules.specs.code.Choices.{IsTrueOf}
use Rattle.better_schedules.proofs.choice.choice.Given as goal

abbrev pub invariant-loop-clause : goal.invariant-loop-clause
invariant-loop-clause l = record {
  count : length l.chosen.items ≡ l.clause-index;
  each : (k : ℕ) → k < l.clause-index → IsTrueOf l.values (slice_index_or l.clauses k []) (literal_at l.chosen.items k);
}
