use Rattle.std.proofs.Common.{◌≡◌}
use Rattle.trim_lemmas.specs.Trimming.{place}
use Rattle.trim_lemmas.proofs.trimming.TrimmedBatch.place.Given as goal

abbrev pub invariant-loop-k : goal.invariant-loop-k
invariant-loop-k l = record { counted : l.count ≡ place l.self.needed.items l.k }
