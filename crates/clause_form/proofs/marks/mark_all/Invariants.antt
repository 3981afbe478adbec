use Rattle.std.proofs.Common.{◌≡◌, ◌<◌, ◌||◌, ℕ, length, drop, get_or, false}
use Rattle.clause_form.specs.Polarity.{is_among}
use Rattle.clause_form.proofs.marks.mark_all.Given as goal

abbrev pub invariant-loop-number : goal.invariant-loop-number
invariant-loop-number l = record {
  count : length l.marks ≡ length l.fn.marks;
  each : (k : ℕ) → k < length l.fn.marks → (is_among k (drop l.number-index l.numbers) || get_or l.marks k false) ≡ (is_among k l.numbers || get_or l.fn.marks k false);
}
