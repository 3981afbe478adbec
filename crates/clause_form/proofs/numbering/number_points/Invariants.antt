use Rattle.std.proofs.Common.{◌≡◌, ◌≤◌, ◌<◌, ◌+◌, ℕ, List, length, get_or}
use Rattle.clause_form.specs.code.Marking.{AreMarks}
use Rattle.clause_form.specs.ClauseForm.{fresh_point}
use Rattle.clause_form.proofs.numbering.number_points.Given as goal

abbrev pub invariant-loop-is_inner : goal.invariant-loop-is_inner
invariant-loop-is_inner l = record {
  few : l.next ≤ l.points + l.is_inner-index;
  count : length l.fresh.items ≡ l.is_inner-index;
  next : (numbers : List ℕ) → AreMarks (length l.inner) l.inner numbers → l.next ≡ fresh_point l.points numbers l.is_inner-index;
  each : (numbers : List ℕ) → AreMarks (length l.inner) l.inner numbers → (k : ℕ) → k < l.is_inner-index → get_or l.fresh.items k 0 ≡ fresh_point l.points numbers k;
}
