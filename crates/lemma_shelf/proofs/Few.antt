-- Numbers below a bound, each once, are no more than the bound.
use Rattle.std.proofs.Common.{arith, ◌≡◌, ℕ, ◌<◌, ◌≤◌, inl, inr, List, [], ◌∷◌, length, true, ◌==◌, All, subst, sym}
use Rattle.std.specs.Prelude.{nat_eq}
use Rattle.std.specs.List.{list_any, IsDistinct}
use Rattle.std.proofs.lemmas.Bool.{or_cases, eqb-true}
use Rattle.std.proofs.lemmas.List.Elements.{All-head, All-tail}
use Rattle.std.proofs.lemmas.Map.Steps.{length-le_from_distinct_below}

below : (xs : List ℕ) (bound : ℕ) → All (λ (n : ℕ). n < bound) xs → (q : ℕ) → list_any (λ (m : ℕ). q == m) xs ≡ true → q < bound
below [] bound all q e = absurd (cc)
below (x ∷ xs) bound all q e = elim (or_cases (q == x) (list_any (λ (m : ℕ). q == m) xs) e) [
  | inl a ↦ let s : q ≡ x = eqb-true q x a in let lt : x < bound = All-head (λ (n : ℕ). n < bound) x xs all in omega (arith, s, lt)
  | inr b ↦ below xs bound (All-tail (λ (n : ℕ). n < bound) x xs all) q b
]

pub few : (keys now : List ℕ) (bound count : ℕ) → keys ≡ now → count ≡ length keys → IsDistinct nat_eq keys → All (λ (n : ℕ). n < bound) now → count ≤ bound
few keys now bound count same is distinct all =
    let most : length keys ≤ bound = length-le_from_distinct_below keys bound distinct (below keys bound (subst (λ (xs : List ℕ). All (λ (n : ℕ). n < bound) xs) (sym same) all)) in
    omega (arith, is, most)
