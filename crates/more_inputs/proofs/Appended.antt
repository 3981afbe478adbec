-- A tree over a problem's clauses is one over them and others behind them.
use Rattle.std.proofs.Common.{◌≡◌, ℕ, zero, suc, List, [], ◌∷◌, ◌++◌, map, Some}
use Rattle.std.specs.Prelude.{slice_get}
use Rattle.stn_core.specs.declared.literal.Literal.{Literal}
use Rattle.stn_core.specs.Literal.{negation_of}
use Rattle.refute_tree.specs.declared.step.Step.{Step}
use Rattle.refute_tree.specs.declared.step.Step.TheVariants.{Cycle, Input, Lemma as Earlier, Clash, Either}
use Rattle.refute_tree.specs.declared.lemma.Lemma.{Lemma}
use Rattle.refute_tree.specs.Trees.{clause_of, Tree, IsRefuted, IsRefutation}
use Rattle.refute_tree.specs.Batches.{AreRefuted}
use Rattle.refute_tree.proofs.Kept.{tree_kept}

slice_get-longer : (xs ys : List (List Literal)) (j : ℕ) (x : List Literal) → slice_get xs j ≡ Some x → slice_get (xs ++ ys) j ≡ Some x
slice_get-longer [] ys j x e = absurd (cc)
slice_get-longer (y ∷ xs) ys zero x e = e
slice_get-longer (y ∷ xs) ys (suc j) x e = slice_get-longer xs ys j x e

clause_of-more : (inputs later lemmas : List (List Literal)) (s : Step) (clause : List Literal) → clause_of inputs lemmas s ≡ Some clause → clause_of (inputs ++ later) lemmas s ≡ Some clause
clause_of-more inputs later lemmas (Cycle cycle) clause e = e
clause_of-more inputs later lemmas (Input i) clause e = slice_get-longer inputs later i clause e
clause_of-more inputs later lemmas (Earlier j) clause e = e
clause_of-more inputs later lemmas (Clash i) clause e = e
clause_of-more inputs later lemmas (Either l) clause e = e

pub refuted_more : (points : ℕ) (clauses later earlier : List (List Literal)) (lemma : Lemma) → IsRefuted points clauses earlier lemma → IsRefuted points (clauses ++ later) earlier lemma
refuted_more points clauses later earlier lemma r = record {
  clause = r.clause;
  steps = r.steps;
  tree = tree_kept clauses earlier (clauses ++ later) earlier (slice_get-longer clauses later) (clause_of-more clauses later earlier) (map negation_of lemma.clause) (λ l h. h) r.tree;
}

pub all_refuted_more : (points : ℕ) (clauses later earlier : List (List Literal)) (lemmas : List Lemma) → AreRefuted points clauses earlier lemmas → AreRefuted points (clauses ++ later) earlier lemmas
all_refuted_more points clauses later earlier [] h = tt
all_refuted_more points clauses later earlier (lemma ∷ lemmas) h =
    (refuted_more points clauses later earlier lemma h.0, all_refuted_more points clauses later (earlier ++ lemma.clause ∷ []) lemmas h.1)

pub refutation_more : (points : ℕ) (clauses later : List (List Literal)) (lemmas : List Lemma) → IsRefutation points clauses lemmas → IsRefutation points (clauses ++ later) lemmas
refutation_more points clauses later lemmas r = record {
  some = r.some;
  each = λ j lemma at. refuted_more points clauses later _ lemma (r.each j lemma at);
  last = r.last;
}
