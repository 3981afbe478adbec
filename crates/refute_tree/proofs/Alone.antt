-- A refutation of one lemma.
use Rattle.std.proofs.Common.{arith, ◌≡◌, ℕ, zero, suc, List, [], ◌∷◌, map, take, Some, subst}
use Rattle.std.specs.Prelude.{slice_get}
use Rattle.stn_core.specs.declared.literal.Literal.{Literal}
use Rattle.refute_tree.specs.declared.lemma.Lemma.{Lemma}
use Rattle.refute_tree.specs.Trees.{IsRefuted, IsRefutation, stated}

-- one lemma alone
pub alone : (points : ℕ) (clauses : List (List Literal)) (lemma : Lemma) → lemma.clause ≡ [] → IsRefuted points clauses [] lemma → IsRefutation points clauses (lemma ∷ [])
alone points clauses lemma e r = record {
  some = omega arith;
  each = each;
  last = λ other is. let s : lemma ≡ other = cc in subst (λ (t : Lemma). t.clause ≡ []) s e;
}
  where
    each : (j : ℕ) (other : Lemma) → slice_get (lemma ∷ []) j ≡ Some other → IsRefuted points clauses (map stated (take j (lemma ∷ []))) other
    each zero other is = let s : lemma ≡ other = cc in subst (IsRefuted points clauses []) s r
    each (suc j) other is = absurd (cc)
