use Rattle.std.proofs.Common.{◌≡◌, ◌<◌, ◌||◌, ℕ, false, length, get_or}
use Rattle.std.specs.List.{list_any}
use Rattle.unsat_cores.specs.Cited.{names_clause, cites_lemma}
use Rattle.unsat_cores.proofs.citing.mark_lemma.Given as goal

abbrev pub invariant-steps : goal.invariant-steps
invariant-steps l = record {
  count : length l.needed ≡ length l.fn.needed;
  cites : (j : ℕ) → j < length l.fn.needed → (list_any (cites_lemma j) l.reader || get_or l.needed j false) ≡ (list_any (cites_lemma j) l.fn.reader || get_or l.fn.needed j false);
  names : (i : ℕ) → (list_any (names_clause i) l.reader || get_or l.cited.items i false) ≡ (list_any (names_clause i) l.fn.reader || get_or l.fn.cited.items i false);
}

abbrev pub decreases-steps : goal.decreases-steps
decreases-steps l = length l.reader
