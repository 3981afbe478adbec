-- Membership in lists of numbers.
use Rattle.std.proofs.Common.{refl, sym, ap, subst, arith, inl, inr, ◌∙◌, ◌≡◌, ◌<◌, ◌≤◌, ◌⊎◌, ℕ, zero, suc, List, [], ◌∷◌, ◌++◌, length, get_or, Bool, true, false, ◌||◌, nat_eq, Contains}
use Rattle.std.specs.List.{AllByRecursion}
use Rattle.std.proofs.lemmas.Bool.Decides.{nat_tests}
use Rattle.std.proofs.lemmas.List.Folds.{list_any-append}
use Rattle.clause_form.specs.Polarity.{is_among}

-- ---- truth values

pub or_left : (a b : Bool) → a ≡ true → (a || b) ≡ true
or_left true b e = refl
or_left false b e = absurd cc

pub or_right : (a b : Bool) → b ≡ true → (a || b) ≡ true
or_right true b e = refl
or_right false b e = e

pub or_cases : (a b : Bool) → (a || b) ≡ true → (a ≡ true) ⊎ (b ≡ true)
or_cases true b e = inl refl
or_cases false b e = inr e

-- ---- each item

pub each : {A : Type 0} (P Q : A → Type 0) (xs : List A) → ((x : A) → P x → Q x) → AllByRecursion P xs → AllByRecursion Q xs
each P Q [] f h = tt
each P Q (x ∷ xs) f h = (f x h.0, each P Q xs f h.1)

pub each_both : {A : Type 0} (P Q R : A → Type 0) (xs : List A) → ((x : A) → P x → Q x → R x) → AllByRecursion P xs → AllByRecursion Q xs → AllByRecursion R xs
each_both P Q R [] f h k = tt
each_both P Q R (x ∷ xs) f h k = (f x h.0 k.0, each_both P Q R xs f h.1 k.1)

-- ---- membership

pub among_append : (k : ℕ) (xs ys : List ℕ) → is_among k (xs ++ ys) ≡ (is_among k xs || is_among k ys)
among_append k xs ys = list_any-append (nat_eq k) xs ys

pub among_left : (k : ℕ) (xs ys : List ℕ) → is_among k xs ≡ true → is_among k (xs ++ ys) ≡ true
among_left k xs ys h = among_append k xs ys ∙ or_left (is_among k xs) (is_among k ys) h

pub among_right : (k : ℕ) (xs ys : List ℕ) → is_among k ys ≡ true → is_among k (xs ++ ys) ≡ true
among_right k xs ys h = among_append k xs ys ∙ or_right (is_among k xs) (is_among k ys) h

pub is_itself : (k : ℕ) → nat_eq k k ≡ true
is_itself k = grind (arith, nat_tests)

is_same : (k m : ℕ) → nat_eq k m ≡ true → k ≡ m
is_same k m e = grind (arith, nat_tests)

is_other : (k m : ℕ) → m < k → nat_eq k m ≡ false
is_other k m h = grind (arith, nat_tests)

pub among_first : (k : ℕ) (xs : List ℕ) → is_among k (k ∷ xs) ≡ true
among_first k xs = or_left (nat_eq k k) (is_among k xs) (is_itself k)

pub among_later : (k m : ℕ) (xs : List ℕ) → is_among k xs ≡ true → is_among k (m ∷ xs) ≡ true
among_later k m xs h = or_right (nat_eq k m) (is_among k xs) h

-- smaller numbers before it change nothing
pub not_among : (j k : ℕ) (xs : List ℕ) → AllByRecursion (λ m. m < j) xs → j ≤ k → is_among k xs ≡ false
not_among j k [] below h = refl
not_among j k (m ∷ xs) below h =
    let lt : m < j = below.0 in
    ap (λ (b : Bool). b || is_among k xs) (is_other k m (omega arith)) ∙ not_among j k xs below.1 h

pub among_smaller : (j k : ℕ) (xs ys : List ℕ) → AllByRecursion (λ m. m < j) xs → j ≤ k → is_among k (xs ++ ys) ≡ is_among k ys
among_smaller j k xs ys below h = among_append k xs ys ∙ ap (λ (b : Bool). b || is_among k ys) (not_among j k xs below h)

pub among_other : (j k m : ℕ) (ys : List ℕ) → m < j → j ≤ k → is_among k (m ∷ ys) ≡ is_among k ys
among_other j k m ys lt h = ap (λ (b : Bool). b || is_among k ys) (is_other k m (omega arith))

-- what holds of each holds of one among them
pub at_among : (P : ℕ → Type 0) (k : ℕ) (xs : List ℕ) → AllByRecursion P xs → is_among k xs ≡ true → P k
at_among P k [] h e = absurd cc
at_among P k (x ∷ xs) h e = elim (or_cases (nat_eq k x) (is_among k xs) e) [ inl f ↦ subst P (sym (is_same k x f)) h.0 | inr f ↦ at_among P k xs h.1 f ]

pub each_among : (P : ℕ → Type 0) (xs : List ℕ) → ((k : ℕ) → is_among k xs ≡ true → P k) → AllByRecursion P xs
each_among P [] f = tt
each_among P (x ∷ xs) f = (f x (among_first x xs), each_among P xs (λ k h. f k (among_later k x xs h)))

pub contained : (xs : List ℕ) (k : ℕ) → is_among k xs ≡ true → Contains xs k
contained [] k e = absurd cc
contained (x ∷ xs) k e = elim (or_cases (nat_eq k x) (is_among k xs) e) [
  | inl f ↦ (0, omega arith, sym (is_same k x f))
  | inr f ↦ (let h = contained xs k f in (suc h.0, (let lt : h.0 < length xs = h.1 in omega arith), h.2))
]

among_at : (xs : List ℕ) (i k : ℕ) → i < length xs → get_or xs i k ≡ k → is_among k xs ≡ true
among_at [] i k h e = absurd (omega arith)
among_at (x ∷ xs) zero k h e = or_left (nat_eq k x) (is_among k xs) (subst (λ (y : ℕ). nat_eq k y ≡ true) (sym e) (is_itself k))
among_at (x ∷ xs) (suc i) k h e = or_right (nat_eq k x) (is_among k xs) (among_at xs i k (omega arith) e)

pub among_contained : (xs : List ℕ) (k : ℕ) → Contains xs k → is_among k xs ≡ true
among_contained xs k h = among_at xs h.0 k h.1 h.2
