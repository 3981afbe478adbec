-- Whether the last clause has no literals, looked at where it stands.
use Rattle.std.proofs.Common.{arith, ◌≡◌, ◌-◌, ℕ, suc, List, [], ◌∷◌, length, map, Some, Bool, ◌==◌, ap, ◌∙◌}
use Rattle.std.specs.Prelude.{slice_get}
use Rattle.stn_core.specs.declared.literal.Literal.{Literal}
use Rattle.cert_check.specs.Flaws.{ends_empty}

module _ {V : Type 0} (clause_of : V → List Literal) where
  last_index : (m n : V) (vs : List V) → slice_get (m ∷ n ∷ vs) (length (m ∷ n ∷ vs) - 1) ≡ slice_get (n ∷ vs) (length (n ∷ vs) - 1)
  last_index m n vs =
      let k : length (m ∷ n ∷ vs) - 1 ≡ suc (length (n ∷ vs) - 1) = omega arith in
      ap (λ (i : ℕ). slice_get (m ∷ n ∷ vs) i) k

  pub ends_tested : (vs : List V) (v : V) (b : Bool) → Some v ≡ slice_get vs (length vs - 1) → b ≡ (length (clause_of v) == 0) → b ≡ ends_empty (map clause_of vs)
  ends_tested [] v b is e = absurd (cc)
  ends_tested (m ∷ []) v b is e = let s : v ≡ m = cc in e ∙ ap (λ (x : V). length (clause_of x) == 0) s
  ends_tested (m ∷ n ∷ vs) v b is e = ends_tested (n ∷ vs) v b (is ∙ last_index m n vs) e
