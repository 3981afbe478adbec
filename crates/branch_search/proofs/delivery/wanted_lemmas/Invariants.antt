use Rattle.std.proofs.Common.{◌≡◌, ◌<◌, ℕ, Some, true, false, get_or}
use Rattle.std.specs.Vec.{vec_len}
use Rattle.branch_search.proofs.delivery.wanted_lemmas.Given as goal

abbrev pub invariant-loop-j : goal.invariant-loop-j
invariant-loop-j l = record {
  each : vec_len l.wanted ≡ l.j;
  found : (k : ℕ) → k < l.j → l.fn.found ≡ Some k → get_or l.wanted.items k false ≡ true;
}
