-- The roots of the cited clauses, one clause after another.
use Rattle.std.proofs.Common.{arith, ◌≡◌, ◌<◌, ◌+◌, ◌||◌, ◌&&◌, ◌∙◌, ℕ, zero, suc, Bool, true, false, nat_eq, List, [], ◌∷◌, length, Option, Some, None, refl, sym, ap, get_or, drop, replicate, map, inl, inr, ◌≤◌, slice_get}
use Rattle.std.proofs.lemmas.Bool.{cases_lt}
use Rattle.std.proofs.lemmas.Bool.Decides.{nat_tests}
use Rattle.std.proofs.lemmas.List.{length-replicate}
use Rattle.stn_core.specs.declared.literal.Literal.{Literal}
use Rattle.refute_tree.specs.Lengths.{lengthened_lemma}
use Rattle.refute_tree.specs.declared.lemma.Lemma.{Lemma}
use Rattle.idl_node.specs.Nodes.{NodeValue}
use Rattle.clause_form.specs.Sources.{sources_of}
use Rattle.clause_form.specs.Laws.{SourcesAreWithin}
use Rattle.unsat_cores.proofs.LengthenedSame.{cites_same}
use Rattle.unsat_cores.specs.Cited.{cites_clause}
use Rattle.unsat_cores.specs.Cores.{some_source, is_cited_root}
use Rattle.unsat_cores.specs.code.Sweeping.{MarksWithin, comes_from}
use Rattle.unsat_cores.proofs.Marks.{or_nested, no_marks}

source_drop : (sources : List (Option ℕ)) (i : ℕ) (source : Option ℕ) → i < length sources → source ≡ get_or sources i source → drop i sources ≡ source ∷ drop (suc i) sources
source_drop [] i source lt e = absurd (omega arith)
source_drop (s ∷ sources) zero source lt e = ap (λ (x : Option ℕ). x ∷ sources) (sym e)
source_drop (s ∷ sources) (suc i) source lt e = source_drop sources i source (omega arith) e

same_sources : (f g : ℕ → Bool) → ((i : ℕ) → f i ≡ g i) → (r i : ℕ) (sources : List (Option ℕ)) → some_source f r i sources ≡ some_source g r i sources
same_sources f g e r i [] = refl
same_sources f g e r i (None ∷ sources) = same_sources f g e r (suc i) sources
same_sources f g e r i (Some k ∷ sources) =
    ap (λ (b : Bool). (nat_eq r k && b) || some_source f r (suc i) sources) (e i)
    ∙ ap (λ (b : Bool). (nat_eq r k && g i) || b) (same_sources f g e r (suc i) sources)

or_false : (a : Bool) → (a || false) ≡ a
or_false true = refl
or_false false = refl

-- where none was marked, the marks say which roots are cited
pub roots_marked : (nodes : List NodeValue) (roots : List ℕ) (lemmas : List Lemma) (sources : List (Option ℕ)) (cited none marks : List Bool) → sources ≡ sources_of nodes roots → ((i : ℕ) → get_or cited i false ≡ cites_clause lemmas i)
    → none ≡ replicate (length roots) false → MarksWithin (λ r. some_source (λ i. get_or cited i false) r 0 sources) none marks
    → (r : ℕ) → r < length roots → get_or marks r false ≡ is_cited_root nodes roots lemmas r
unfolding is_cited_root
roots_marked nodes roots lemmas sources cited none marks these each empty marked r lt =
    marked.1 r (let long : length none ≡ length roots = ap length empty ∙ length-replicate (length roots) false in omega arith)
    ∙ ap (λ (b : Bool). some_source (λ i. get_or cited i false) r 0 sources || b) (ap (λ (bs : List Bool). get_or bs r false) empty ∙ no_marks (length roots) r)
    ∙ or_false (some_source (λ i. get_or cited i false) r 0 sources)
    ∙ same_sources (λ i. get_or cited i false) (cites_clause lemmas) each r 0 sources
    ∙ ap (λ (ss : List (Option ℕ)). some_source (cites_clause lemmas) r 0 ss) these

-- a number that no source has
none_cited : (cited : ℕ → Bool) (r n bound : ℕ) (sources : List (Option ℕ)) → ((i k : ℕ) → slice_get sources i ≡ Some (Some k) → k < bound) → bound ≤ r → some_source cited r n sources ≡ false
none_cited cited r n bound [] within beyond = refl
none_cited cited r n bound (None ∷ sources) within beyond = none_cited cited r (suc n) bound sources (λ i k at. within (suc i) k at) beyond
none_cited cited r n bound (Some k ∷ sources) within beyond =
    let below : k < bound = within 0 k refl in
    let other : nat_eq r k ≡ false = grind (arith, nat_tests) in
    ap (λ (b : Bool). (b && cited n) || some_source cited r (suc n) sources) other
    ∙ none_cited cited r (suc n) bound sources (λ i m at. within (suc i) m at) beyond

-- and so of every number
pub all_marked : (nodes : List NodeValue) (roots : List ℕ) (lemmas : List Lemma) (marks : List Bool) → SourcesAreWithin → length marks ≡ length roots
    → ((r : ℕ) → r < length roots → get_or marks r false ≡ is_cited_root nodes roots lemmas r) → (r : ℕ) → get_or marks r false ≡ is_cited_root nodes roots lemmas r
unfolding is_cited_root
all_marked nodes roots lemmas marks within count each r = elim (cases_lt r (length roots)) [
  | inl less ↦ each r less
  | inr more ↦ beyond marks r (omega (arith, count)) ∙ sym (none_cited (cites_clause lemmas) r 0 (length roots) (sources_of nodes roots) (within nodes roots) more)
]
  where
    beyond : (marks : List Bool) (r : ℕ) → length marks ≤ r → get_or marks r false ≡ false
    beyond [] r le = refl
    beyond (b ∷ marks) zero le = absurd (omega arith)
    beyond (b ∷ marks) (suc r) le = beyond marks r (omega arith)

-- the same roots when clashes are written out
pub roots_same : (clauses : List (List Literal)) (nodes : List NodeValue) (roots : List ℕ) (lemmas : List Lemma) (r : ℕ) → is_cited_root nodes roots (map (lengthened_lemma clauses) lemmas) r ≡ is_cited_root nodes roots lemmas r
unfolding is_cited_root
roots_same clauses nodes roots lemmas r =
    same_sources (cites_clause (map (lengthened_lemma clauses) lemmas)) (cites_clause lemmas) (cites_same clauses lemmas) r 0 (sources_of nodes roots)
