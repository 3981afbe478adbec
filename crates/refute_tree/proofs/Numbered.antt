-- Refuted lemmas, one after the other and by their numbers.
use Rattle.std.proofs.Common.{◌≡◌, ◌∷◌, ◌++◌, ℕ, zero, suc, List, [], map, take, Some, refl, sym, subst, append_assoc, append-nil}
use Rattle.std.specs.Prelude.{slice_get}
use Rattle.stn_core.specs.declared.literal.Literal.{Literal}
use Rattle.refute_tree.specs.declared.lemma.Lemma.{Lemma}
use Rattle.refute_tree.specs.Trees.{IsRefuted, stated}
use Rattle.refute_tree.specs.Batches.{AreRefuted}

pub each_refuted : (points : ℕ) (clauses first : List (List Literal)) (lemmas : List Lemma) → AreRefuted points clauses first lemmas
    → (k : ℕ) (lemma : Lemma) → slice_get lemmas k ≡ Some lemma → IsRefuted points clauses (first ++ map stated (take k lemmas)) lemma
each_refuted points clauses first [] h k lemma e = absurd (cc)
each_refuted points clauses first (l ∷ lemmas) h zero lemma e =
    let same : l ≡ lemma = cc in
    subst (λ (cs : List (List Literal)). IsRefuted points clauses cs lemma) (sym (append-nil first)) (subst (IsRefuted points clauses first) same h.0)
each_refuted points clauses first (l ∷ lemmas) h (suc k) lemma e =
    subst (λ (cs : List (List Literal)). IsRefuted points clauses cs lemma) (append_assoc first (l.clause ∷ []) (map stated (take k lemmas)))
    (each_refuted points clauses (first ++ l.clause ∷ []) lemmas h.1 k lemma e)

pub refuted_each : (points : ℕ) (clauses first : List (List Literal)) (lemmas : List Lemma)
    → ((k : ℕ) (lemma : Lemma) → slice_get lemmas k ≡ Some lemma → IsRefuted points clauses (first ++ map stated (take k lemmas)) lemma)
    → AreRefuted points clauses first lemmas
refuted_each points clauses first [] h = tt
refuted_each points clauses first (l ∷ lemmas) h = (
  subst (λ (cs : List (List Literal)). IsRefuted points clauses cs l) (append-nil first) (h 0 l refl),
  refuted_each points clauses (first ++ l.clause ∷ []) lemmas (λ k lemma e. subst (λ (cs : List (List Literal)). IsRefuted points clauses cs lemma) (sym (append_assoc first (l.clause ∷ []) (map stated (take k lemmas)))) (h (suc k) lemma e)),
)
