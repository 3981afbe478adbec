use Rattle.std.proofs.Common.{◌≡◌, ◌<◌, ◌||◌, ℕ, false, length, get_or, drop}
use Rattle.unsat_cores.specs.Cores.{some_source}
use Rattle.unsat_cores.proofs.rooting.mark_sources.Given as goal

abbrev pub invariant-loop-i : goal.invariant-loop-i
invariant-loop-i l = record {
  count : length l.marks ≡ length l.fn.marks;
  each : (r : ℕ) → r < length l.fn.marks → (some_source (λ i. get_or l.cited i false) r l.i (drop l.i l.sources) || get_or l.marks r false) ≡ (some_source (λ i. get_or l.cited i false) r 0 l.sources || get_or l.fn.marks r false);
}
