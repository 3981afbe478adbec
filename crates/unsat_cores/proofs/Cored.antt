-- The cited clauses hold on some values wherever their roots are true on a schedule.
use Rattle.std.proofs.Common.{arith, ◌≡◌, ◌+◌, ◌&&◌, ℕ, zero, suc, List, [], ◌∷◌, length, Option, Some, None, Bool, true, false, nat_eq, ap, refl, ◌∙◌}
use Rattle.std.specs.Prelude.{slice_get, slice_index, slice_index_or}
use Rattle.stn_core.specs.declared.named.NamedValue.{NamedValue}
use Rattle.refute_tree.specs.declared.lemma.Lemma.{Lemma}
use Rattle.idl_node.specs.Nodes.{NodeValue}
use Rattle.idl_node.specs.Truth.{truth, point_values}
use Rattle.clause_form.specs.ClauseForm.{clauses_of, points_of}
use Rattle.clause_form.specs.Sources.{sources_of}
use Rattle.clause_form.specs.Laws.{SourcesFollow, SourcesAreWithin, IsTrueSource}
use Rattle.unsat_cores.specs.Cited.{cites_clause}
use Rattle.unsat_cores.specs.Cores.{some_source, is_cited_root}
use Rattle.unsat_cores.specs.Laws.{CitedLaw, CoreLaw}
use Rattle.unsat_cores.proofs.Marks.{or_left, or_right, is_itself}

source_at : (sources : List (Option ℕ)) (i r : ℕ) → slice_index_or sources i None ≡ Some r → slice_get sources i ≡ Some (Some r)
source_at [] i r e = absurd cc
source_at (x ∷ xs) zero r e = ap (λ (o : Option ℕ). Some o) e
source_at (x ∷ xs) (suc i) r e = source_at xs i r e

and_both : (a b : Bool) → a ≡ true → b ≡ true → (a && b) ≡ true
and_both true b e f = f
and_both false b e f = absurd cc

-- a cited clause of this source
source_cited : (cited : ℕ → Bool) (r n : ℕ) (sources : List (Option ℕ)) (i : ℕ) → slice_get sources i ≡ Some (Some r) → cited (n + i) ≡ true → some_source cited r n sources ≡ true
source_cited cited r n [] i at c = absurd cc
source_cited cited r n (None ∷ sources) zero at c = absurd cc
source_cited cited r n (Some k ∷ sources) zero at c =
    let same : k ≡ r = cc in
    let here : n ≡ n + 0 = omega arith in
    or_left (nat_eq r k && cited n) (some_source cited r (suc n) sources)
    (and_both (nat_eq r k) (cited n) (ap (nat_eq r) same ∙ is_itself r) (ap cited here ∙ c))
source_cited cited r n (None ∷ sources) (suc i) at c =
    source_cited cited r (suc n) sources i at (ap cited (omega arith) ∙ c)
source_cited cited r n (Some k ∷ sources) (suc i) at c =
    or_right (nat_eq r k && cited n) (some_source cited r (suc n) sources)
    (source_cited cited r (suc n) sources i at (ap cited (omega arith) ∙ c))

root_cited : (nodes : List NodeValue) (roots : List ℕ) (lemmas : List Lemma) (i r : ℕ) → slice_get (sources_of nodes roots) i ≡ Some (Some r) → cites_clause lemmas i ≡ true → is_cited_root nodes roots lemmas r ≡ true
unfolding is_cited_root
root_cited nodes roots lemmas i r at c = source_cited (cites_clause lemmas) r 0 (sources_of nodes roots) i at (let here : 0 + i ≡ i = omega arith in ap (cites_clause lemmas) here ∙ c)

-- by cases on the clause's source
source_true : (nodes : List NodeValue) (roots : List ℕ) (schedule : List NamedValue) (source : Option ℕ)
    → ((r : ℕ) → source ≡ Some r → truth nodes (point_values schedule) (slice_index roots r) ≡ true)
    → IsTrueSource nodes roots schedule source
source_true nodes roots schedule None h = tt
source_true nodes roots schedule (Some r) h = h r refl

pub cored : CitedLaw → SourcesFollow → SourcesAreWithin → CoreLaw
cored cited follow within sorts nodes roots lemmas schedule table of_sorts refutes true_all =
    let held = follow sorts nodes roots schedule table of_sorts in
    cited (points_of (length sorts + 1) nodes roots) (clauses_of (length sorts + 1) nodes roots) lemmas refutes held.0
    (λ i clause is_cited at. held.3 i clause at (source_true nodes roots schedule (slice_index_or (sources_of nodes roots) i None)
    (λ r e. (
    let source = source_at (sources_of nodes roots) i r e in
    true_all r (within nodes roots i r source) (root_cited nodes roots lemmas i r source is_cited)))))
