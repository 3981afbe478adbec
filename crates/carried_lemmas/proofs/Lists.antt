-- Parts of lists, and what stands at a place of one.
use Rattle.std.proofs.Common.{arith, ◌≡◌, ◌<◌, ℕ, zero, suc, List, [], ◌∷◌, ◌++◌, length, take, flat_map, Some, All, Contains, refl}
use Rattle.std.specs.Prelude.{slice_get}
use Rattle.std.proofs.lemmas.List.Elements.{All-nil, All-cons, All-head, All-tail, All-contains}

module _ {X : Type 0} where
  module _ (P : X → Type 0) where
    pub all_before : (xs ys : List X) → All P (xs ++ ys) → All P xs
    all_before [] ys h = All-nil P
    all_before (x ∷ xs) ys h = All-cons P x xs (All-head P x (xs ++ ys) h) (all_before xs ys (All-tail P x (xs ++ ys) h))

    pub all_behind : (xs ys : List X) → All P (xs ++ ys) → All P ys
    all_behind [] ys h = h
    all_behind (x ∷ xs) ys h = all_behind xs ys (All-tail P x (xs ++ ys) h)

    pub all_from_get : (xs : List X) → ((i : ℕ) (x : X) → slice_get xs i ≡ Some x → P x) → All P xs
    all_from_get [] h = All-nil P
    all_from_get (x ∷ xs) h = All-cons P x xs (h 0 x refl) (all_from_get xs (λ i y e. h (suc i) y e))

  pub taken_get : (xs : List X) (k j : ℕ) (x : X) → slice_get (take k xs) j ≡ Some x → (slice_get xs j ≡ Some x) × (j < k)
  taken_get [] zero j x e = absurd (cc)
  taken_get [] (suc k) j x e = absurd (cc)
  taken_get (y ∷ xs) zero j x e = absurd (cc)
  taken_get (y ∷ xs) (suc k) zero x e = (e, omega arith)
  taken_get (y ∷ xs) (suc k) (suc j) x e = (let h = taken_get xs k j x e in (h.0, omega (arith, h.1)))

  pub some_there : (xs : List X) (j : ℕ) → j < length xs → (x : X) × (slice_get xs j ≡ Some x)
  some_there [] j lt = absurd (omega arith)
  some_there (x ∷ xs) zero lt = (x, refl)
  some_there (x ∷ xs) (suc j) lt = some_there xs j (omega arith)

-- what each item gives is in what all give
module _ {X Y : Type 0} (P : Y → Type 0) (f : X → List Y) where
  all_parts : (xs : List X) → All P (flat_map f xs) → All (λ (x : X). All P (f x)) xs
  all_parts [] h = All-nil (λ (x : X). All P (f x))
  all_parts (x ∷ xs) h =
      All-cons (λ (z : X). All P (f z)) x xs (all_before P (f x) (flat_map f xs) h) (all_parts xs (all_behind P (f x) (flat_map f xs) h))

  pub of_each : (xs : List X) (x : X) → All P (flat_map f xs) → Contains xs x → All P (f x)
  of_each xs x h in_ = All-contains (λ (z : X). All P (f z)) xs x (all_parts xs h) in_
