use Rattle.std.proofs.Common.{◌≡◌, ◌<◌, ℕ, List, length, Some, None, slice_index_or}
use Rattle.std.specs.Prelude.{slice_get}
use Rattle.stn_core.specs.declared.literal.Literal.{Literal}
use Rattle.carried_lemmas.specs.Carried.{IsEqualAt}
use Rattle.carried_lemmas.proofs.numbers.numbers_in.Given as goal

abbrev pub invariant-loop-clause : goal.invariant-loop-clause
invariant-loop-clause l = record {
  count : length l.numbers.items ≡ l.clause-index;
  each : (i : ℕ) (clause : List Literal) → i < l.clause-index → slice_get l.old i ≡ Some clause → IsEqualAt l.new clause (slice_index_or l.numbers.items i None);
}
