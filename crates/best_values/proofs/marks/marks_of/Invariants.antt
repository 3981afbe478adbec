use Rattle.std.proofs.Common.{◌≡◌, ◌<◌, ℕ, length, take, true, false, Contains, slice_index_or}
use Rattle.std.specs.Prelude.{◌↔◌}
use Rattle.best_values.proofs.marks.marks_of.Given as goal

abbrev pub invariant-loop-point : goal.invariant-loop-point
invariant-loop-point l = record {
  count : length l.marks.items ≡ l.points;
  each : (p : ℕ) → p < l.points → (slice_index_or l.marks.items p false ≡ true) ↔ Contains (take l.point-index l.set) p;
}
