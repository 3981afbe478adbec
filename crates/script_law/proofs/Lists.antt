-- What holds of each item of lists of lists, and how many there are.
use Rattle.std.proofs.Common.{◌≡◌, sym, subst, arith, ℕ, zero, suc, ◌+◌, ◌*◌, ◌<◌, ◌≤◌, List, [], ◌∷◌, ◌++◌, length, length-append, inl, inr}
use Rattle.std.specs.List.{AllByRecursion}
use Rattle.std.proofs.lemmas.Bool.{cases_lt}
use Rattle.std.proofs.Math.Nat.{suc-mul}
use Rattle.job_shop.specs.Scripts.{each}

pub all_append : {A : Type 0} (P : A → Type 0) (xs ys : List A) → AllByRecursion P xs → AllByRecursion P ys → AllByRecursion P (xs ++ ys)
all_append P [] ys h k = k
all_append P (x ∷ xs) ys h k = (h.0, all_append P xs ys h.1 k)

pub all_front : {A : Type 0} (P : A → Type 0) (xs ys : List A) → AllByRecursion P (xs ++ ys) → AllByRecursion P xs
all_front P [] ys h = tt
all_front P (x ∷ xs) ys h = (h.0, all_front P xs ys h.1)

pub all_back : {A : Type 0} (P : A → Type 0) (xs ys : List A) → AllByRecursion P (xs ++ ys) → AllByRecursion P ys
all_back P [] ys h = h
all_back P (x ∷ xs) ys h = all_back P xs ys h.1

pub all_each : {A : Type 0} (P : A → Type 0) (n : ℕ) (items : ℕ → List A) → ((i : ℕ) → i < n → AllByRecursion P (items i)) → AllByRecursion P (each n items)
all_each P zero items h = tt
all_each P (suc n) items h =
    all_append P (each n items) (items n) (all_each P n items (λ i l. h i (omega arith))) (h n (omega arith))

pub one_of : {A : Type 0} (P : A → Type 0) (n i : ℕ) (items : ℕ → List A) → i < n → AllByRecursion P (each n items) → AllByRecursion P (items i)
one_of P zero i items l h = absurd (omega arith)
one_of P (suc n) i items l h = elim (cases_lt i n) [
  | inl below ↦ one_of P n i items below (all_front P (each n items) (items n) h)
  | inr high ↦ (let same : n ≡ i = omega arith in subst (λ (k : ℕ). AllByRecursion P (items k)) same (all_back P (each n items) (items n) h))
]

-- ---- how many there are

pub long_each : {A : Type 0} (n most : ℕ) (items : ℕ → List A) → ((i : ℕ) → i < n → length (items i) ≤ most) → length (each n items) ≤ n * most
long_each zero most items h = omega arith
long_each (suc n) most items h =
    let before = long_each n most items (λ i l. h i (omega arith)) in
    let more = h n (omega arith) in
    let step : n * most + most ≡ suc n * most = sym (suc-mul n most) in
    omega (arith, length-append (each n items) (items n), before, more, step)

pub length_each : {A : Type 0} (n most : ℕ) (items : ℕ → List A) → ((i : ℕ) → length (items i) ≡ most) → length (each n items) ≡ n * most
length_each zero most items h = let none : 0 ≡ 0 * most = omega arith in none
length_each (suc n) most items h =
    let before = length_each n most items h in
    let more = h n in
    let step : n * most + most ≡ suc n * most = sym (suc-mul n most) in
    omega (arith, length-append (each n items) (items n), before, more, step)
