use Rattle.std.proofs.Common.{ℕ, ◌≡◌, length}
use Rattle.inc_paths.proofs.Undoing.{IsCopied}
use Rattle.inc_paths.proofs.labels.copy_lowered.Given as goal

abbrev pub invariant-lowerings : goal.invariant-lowerings
invariant-lowerings l = record {
  count : length l.before ≡ length l.values;
  copied : (point : ℕ) → IsCopied l.values l.trail l.before l.place point;
}
