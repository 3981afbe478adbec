-- Marks that are set one after the other, and the places that are true.
use Rattle.std.proofs.Common.{arith, ◌≡◌, ◌<◌, ◌≤◌, ◌+◌, ◌⊎◌, ◌||◌, inl, inr, ℕ, zero, suc, Bool, true, false, nat_eq, List, [], ◌∷◌, ◌++◌, length, Contains, refl, sym, ap, subst, ◌∙◌, get_or, set, replicate, append_assoc}
use Rattle.std.proofs.lemmas.Bool.Decides.{nat_tests}
use Rattle.std.proofs.lemmas.List.{length-set}
use Rattle.unsat_cores.specs.code.Sweeping.{MarksMore, MarksWithin, true_places}

pub or_cases : (a b : Bool) → (a || b) ≡ true → (a ≡ true) ⊎ (b ≡ true)
or_cases true b e = inl refl
or_cases false b e = inr e

pub or_left : (a b : Bool) → a ≡ true → (a || b) ≡ true
or_left true b e = refl
or_left false b e = absurd cc

pub or_right : (a b : Bool) → b ≡ true → (a || b) ≡ true
or_right true b e = refl
or_right false b e = e

pub or_swapped : (a b c : Bool) → (a || (b || c)) ≡ (b || (a || c))
or_swapped true true c = refl
or_swapped true false c = refl
or_swapped false b c = refl

pub or_nested : (a b c : Bool) → ((a || b) || c) ≡ (b || (a || c))
or_nested true true c = refl
or_nested true false c = refl
or_nested false b c = refl

pub is_itself : (k : ℕ) → nat_eq k k ≡ true
is_itself k = grind (arith, nat_tests)

pub is_other : (i k : ℕ) → i < k → nat_eq i k ≡ false
is_other i k lt = grind (arith, nat_tests)

pub same_number : (i k : ℕ) → nat_eq i k ≡ true → k ≡ i
same_number i k e = grind (arith, nat_tests)

-- ---- one mark

padded : (xs : List Bool) (m i : ℕ) → get_or (xs ++ replicate m false) i false ≡ get_or xs i false
padded [] zero i = refl
padded [] (suc m) zero = refl
padded [] (suc m) (suc i) = padded [] m i
padded (x ∷ xs) m zero = refl
padded (x ∷ xs) m (suc i) = padded xs m i

pub no_marks : (m i : ℕ) → get_or (replicate m false) i false ≡ false
no_marks m i = padded [] m i

set_or : (xs : List Bool) (n i : ℕ) → n < length xs → get_or (set xs n true) i false ≡ (nat_eq i n || get_or xs i false)
set_or [] n i lt = absurd (omega arith)
set_or (x ∷ xs) zero zero lt = ap (λ (b : Bool). b || x) (sym (is_itself 0))
set_or (x ∷ xs) zero (suc i) lt = (let other : nat_eq (suc i) 0 ≡ false = grind (arith, nat_tests) in ap (λ (b : Bool). b || get_or xs i false) (sym other))
set_or (x ∷ xs) (suc n) zero lt = (let other : nat_eq 0 (suc n) ≡ false = grind (arith, nat_tests) in ap (λ (b : Bool). b || x) (sym other))
set_or (x ∷ xs) (suc n) (suc i) lt = set_or xs n i (omega arith) ∙ ap (λ (b : Bool). b || get_or xs i false) (one_more i n (nat_eq i n) refl)
  where
    one_more : (i n : ℕ) (b : Bool) → nat_eq i n ≡ b → nat_eq i n ≡ nat_eq (suc i) (suc n)
    one_more i n true e = (let same : nat_eq (suc i) (suc n) ≡ true = grind (arith, nat_tests) in e ∙ sym same)
    one_more i n false e = (let other : nat_eq (suc i) (suc n) ≡ false = grind (arith, nat_tests) in e ∙ sym other)

-- marks whose count stays
pub within_one : (old : List Bool) (n : ℕ) → n < length old → MarksWithin (λ i. nat_eq i n) old (set old n true)
within_one old n lt = (length-set old n true, λ i in_. set_or old n i lt)

next_number : (i n m : ℕ) → m ≡ n + 1 → nat_eq i n ≡ nat_eq (suc i) m
next_number i n m e = turn (nat_eq i n) refl
  where
    turn : (b : Bool) → nat_eq i n ≡ b → nat_eq i n ≡ nat_eq (suc i) m
    turn true f = (let same : nat_eq (suc i) m ≡ true = grind (arith, nat_tests) in f ∙ sym same)
    turn false f = (let other : nat_eq (suc i) m ≡ false = grind (arith, nat_tests) in f ∙ sym other)

pub last_one : (old : List Bool) (n : ℕ) → length old ≡ n + 1 → MarksWithin (λ i. nat_eq (suc i) (length old)) old (set old n true)
last_one old n e = (length-set old n true, λ i in_. set_or old n i (omega arith) ∙ ap (λ (b : Bool). b || get_or old i false) (next_number i n (length old) e))

-- ---- the places that are true

above : (n : ℕ) (marks : List Bool) (a : ℕ) → a < length (true_places n marks) → n ≤ get_or (true_places n marks) a 0
above n [] a lt = absurd (omega arith)
above n (true ∷ marks) zero lt = omega arith
above n (true ∷ marks) (suc a) lt = let h = above (suc n) marks a (omega arith) in omega arith
above n (false ∷ marks) a lt = let h = above (suc n) marks a lt in omega arith

pub ascends : (n : ℕ) (marks : List Bool) (a b : ℕ) → a < b → b < length (true_places n marks) → get_or (true_places n marks) a 0 < get_or (true_places n marks) b 0
ascends n [] a b less lt = absurd (omega arith)
ascends n (true ∷ marks) a zero less lt = absurd (omega arith)
ascends n (true ∷ marks) zero (suc b) less lt = let h = above (suc n) marks b (omega arith) in omega arith
ascends n (true ∷ marks) (suc a) (suc b) less lt = ascends (suc n) marks a b (omega arith) (omega arith)
ascends n (false ∷ marks) a b less lt = ascends (suc n) marks a b less lt

later : (m : ℕ) (xs : List ℕ) (x : ℕ) → Contains xs x → Contains (m ∷ xs) x
later m xs x (k, lt, e) = (suc k, omega (arith, lt), e)

pub to_places : (n : ℕ) (marks : List Bool) (i : ℕ) → get_or marks i false ≡ true → Contains (true_places n marks) (n + i)
to_places n [] i e = absurd cc
to_places n (true ∷ marks) zero e = let is : n ≡ n + 0 = omega arith in subst (Contains (n ∷ true_places (suc n) marks)) is (0, omega arith, refl)
to_places n (false ∷ marks) zero e = absurd cc
to_places n (true ∷ marks) (suc i) e =
    let is : suc n + i ≡ n + suc i = omega arith in
    subst (Contains (n ∷ true_places (suc n) marks)) is (later n (true_places (suc n) marks) (suc n + i) (to_places (suc n) marks i e))
to_places n (false ∷ marks) (suc i) e =
    let is : suc n + i ≡ n + suc i = omega arith in
    subst (Contains (true_places (suc n) marks)) is (to_places (suc n) marks i e)

pub from_places : (n : ℕ) (marks : List Bool) (x : ℕ) → Contains (true_places n marks) x → (i : ℕ) × (x ≡ n + i) × (get_or marks i false ≡ true)
from_places n [] x (k, lt, e) = absurd (omega (arith, lt))
from_places n (true ∷ marks) x (zero, lt, e) = (0, (let f : n ≡ x = e in omega arith), refl)
from_places n (true ∷ marks) x (suc k, lt, e) =
    let h = from_places (suc n) marks x (k, omega (arith, lt), e) in
    let f = h.1 in
    (suc h.0, omega arith, h.2)
from_places n (false ∷ marks) x c =
    let h = from_places (suc n) marks x c in
    let f = h.1 in
    (suc h.0, omega arith, h.2)
