use Rattle.std.proofs.Common.{◌≡◌, ◌<◌, ◌+◌, ℕ, get_or}
use Rattle.std.specs.Vec.{vec_len}
use Rattle.trim_lemmas.specs.Trimming.{place}
use Rattle.trim_lemmas.proofs.places.Places.new.Given as goal

abbrev pub invariant-loop-is_needed : goal.invariant-loop-is_needed
invariant-loop-is_needed l = record {
  long : vec_len l.numbers ≡ l.is_needed-index;
  each : (j : ℕ) → j < l.is_needed-index → get_or l.numbers.items j 0 ≡ l.seen + place l.needed j;
  all : l.end ≡ l.seen + place l.needed l.is_needed-index;
}
