-- The numbers of a shelf's entries, each lemma's first where it came.
use Rattle.std.proofs.Common.{arith, ◌≡◌, ℕ, suc, ◌<◌, ◌≤◌, ◌+◌, inl, inr, List, [], ◌∷◌, ◌++◌, length, map, flat_map, get_or, All, refl, sym, ap, subst}
use Rattle.std.specs.Prelude.{nat_eq}
use Rattle.std.specs.List.{IsDistinct}
use Rattle.std.proofs.lemmas.Bool.{cases_lt, eqb-false}
use Rattle.std.proofs.lemmas.Grind.{flat_map-append}
use Rattle.std.proofs.lemmas.List.Elements.{All-nil, All-cons, All-head, All-tail}
use Rattle.std.proofs.lemmas.Map.Keys.{apart_from_distinct}
use Rattle.lemma_shelf.specs.Lowering.{IsSublist, none, takes, passes}
use Rattle.lemma_shelf.specs.code.Tables.{CountsTo}
use Rattle.lemma_shelf.specs.code.WrittenOut.{Rises, Mounts}

-- ---- counting goes on

pub counts_on : (xs ys : List ℕ) (a b c : ℕ) → CountsTo a xs b → CountsTo b ys c → CountsTo a (xs ++ ys) c
counts_on [] ys a b c h k = subst (λ (n : ℕ). CountsTo n ys c) (sym h) k
counts_on (x ∷ xs) ys a b c (inl (lt, h)) k = inl (lt, counts_on xs ys a b c h k)
counts_on (x ∷ xs) ys a b c (inr (e, h)) k = inr (e, counts_on xs ys (a + 1) b c h k)

pub counts_apart : (xs ys : List ℕ) (a c : ℕ) → CountsTo a (xs ++ ys) c → (b : ℕ) × CountsTo a xs b × CountsTo b ys c
counts_apart [] ys a c h = (a, refl, h)
counts_apart (x ∷ xs) ys a c (inl (lt, h)) = let w = counts_apart xs ys a c h in (w.0, inl (lt, w.1), w.2)
counts_apart (x ∷ xs) ys a c (inr (e, h)) = let w = counts_apart xs ys (a + 1) c h in (w.0, inr (e, w.1), w.2)

counts_up : (xs : List ℕ) (a b : ℕ) → CountsTo a xs b → a ≤ b
counts_up [] a b h = omega (arith, h)
counts_up (x ∷ xs) a b (inl (lt, h)) = counts_up xs a b h
counts_up (x ∷ xs) a b (inr (e, h)) = let le = counts_up xs (a + 1) b h in omega (arith, le)

-- all that were counted are below the count
pub counts_below : (xs : List ℕ) (a b : ℕ) → CountsTo a xs b → All (λ (n : ℕ). n < b) xs
counts_below [] a b h = All-nil (λ (n : ℕ). n < b)
counts_below (x ∷ xs) a b (inl (lt, h)) =
    let le = counts_up xs a b h in
    All-cons (λ (n : ℕ). n < b) x xs (omega (arith, le, lt)) (counts_below xs a b h)
counts_below (x ∷ xs) a b (inr (e, h)) =
    let le = counts_up xs (a + 1) b h in
    All-cons (λ (n : ℕ). n < b) x xs (omega (arith, le, e)) (counts_below xs (a + 1) b h)

-- with one more entry
pub counted_longer : (entries : List (List ℕ)) (numbers : List ℕ) (b c : ℕ) → CountsTo 0 (flat_map (λ (ns : List ℕ). ns) entries) b → CountsTo b numbers c → CountsTo 0 (flat_map (λ (ns : List ℕ). ns) (entries ++ numbers ∷ [])) c
counted_longer entries numbers b c h k =
    let flat : List (List ℕ) → List ℕ = flat_map (λ (ns : List ℕ). ns) in
    let more : CountsTo b (numbers ++ []) c = counts_on numbers [] b c c k refl in
    subst (λ (xs : List ℕ). CountsTo 0 xs c) (sym (flat_map-append (λ (ns : List ℕ). ns) entries (numbers ∷ []))) (counts_on (flat entries) (numbers ++ []) 0 b c h more)

-- ---- numbers that rise, among those that were counted

-- from the low one on, each above the one before it and below the high one
abbrev Climbs : ℕ → List ℕ → ℕ → Type 0
Climbs low [] high = Unit {0}
Climbs low (n ∷ numbers) high = (low ≤ n) × (n < high) × Climbs (n + 1) numbers high

mounts_tail : (n : ℕ) (numbers : List ℕ) → Mounts (n ∷ numbers) → Mounts numbers
mounts_tail n numbers up i j lt within = up (suc i) (suc j) (omega (arith, lt)) (omega (arith, within))

climbs_from : (low high : ℕ) (numbers : List ℕ) → (0 < length numbers → low ≤ get_or numbers 0 0) → Mounts numbers → All (λ (n : ℕ). n < high) numbers → Climbs low numbers high
climbs_from low high [] first up all = tt
climbs_from low high (n ∷ numbers) first up all = (
  first (omega arith),
  All-head (λ (m : ℕ). m < high) n numbers all,
  climbs_from (n + 1) high numbers (λ some. (let lt : n < get_or numbers 0 0 = up 0 1 (omega arith) (omega (arith, some)) in omega (arith, lt))) (mounts_tail n numbers up) (All-tail (λ (m : ℕ). m < high) n numbers all),
)

-- what was counted has them in their order, each where it came
among : (numbers xs : List ℕ) (low high : ℕ) → Climbs low numbers high → CountsTo low xs high → IsSublist numbers xs
among [] [] low high h c = none
among [] (x ∷ xs) low high h (inl (lt, c)) = passes (among [] xs low high tt c)
among [] (x ∷ xs) low high h (inr (e, c)) = passes (among [] xs (low + 1) high tt c)
among (n ∷ numbers) [] low high h c = let le = h.0 in let lt = h.1 in absurd (omega (arith, le, lt, c))
among (n ∷ numbers) (x ∷ xs) low high h (inl (lt, c)) = passes (among (n ∷ numbers) xs low high h c)
among (n ∷ numbers) (x ∷ xs) low high h (inr (e, c)) = elim (cases_lt low n) [
  | inl lt ↦ passes (among (n ∷ numbers) xs (low + 1) high (omega (arith, lt), h.1, h.2) c)
  | inr ge ↦
      let le = h.0 in
      let here : n ≡ x = omega (arith, le, ge, e) in
      let next : n + 1 ≡ low + 1 = omega (arith, le, ge) in
      subst (λ (m : ℕ). IsSublist (n ∷ numbers) (m ∷ xs)) here (takes (among numbers xs (low + 1) high (subst (λ (k : ℕ). Climbs k numbers high) next h.2) c))
]

pub numbers_among : (numbers xs : List ℕ) (high : ℕ) → Mounts numbers → All (λ (n : ℕ). n < high) numbers → CountsTo 0 xs high → IsSublist numbers xs
numbers_among numbers xs high up all c = among numbers xs 0 high (climbs_from 0 high numbers (λ some. omega arith) up all) c

pub sublist_map : {A B : Type 0} (f : A → B) {xs ys : List A} → IsSublist xs ys → IsSublist (map f xs) (map f ys)
sublist_map f none = none
sublist_map f (takes h) = takes (sublist_map f h)
sublist_map f (passes h) = passes (sublist_map f h)

-- numbers that don't fall and are apart
pub mounts_distinct : (xs : List ℕ) → Rises xs → IsDistinct nat_eq xs → Mounts xs
mounts_distinct xs up distinct i j lt within =
    let le = up i j (omega (arith, lt)) within in
    let apart = eqb-false _ _ (apart_from_distinct nat_eq xs i j 0 distinct lt within) in
    omega (arith, le, apart)

-- a number stands at one place
pub one_place : (xs : List ℕ) → Mounts xs → (i j n : ℕ) → i < length xs → j < length xs → get_or xs i 0 ≡ n → get_or xs j 0 ≡ n → i ≡ j
one_place xs up i j n a b e f = elim (cases_lt i j) [
  | inl lt ↦ let h = up i j lt b in absurd (omega (arith, h, e, f))
  | inr ge ↦ elim (cases_lt j i) [
    | inl lt ↦ let h = up j i lt a in absurd (omega (arith, h, e, f))
    | inr le ↦ omega (arith, ge, le)
  ]
]

-- and the greater one behind
pub place_before : (xs : List ℕ) → Mounts xs → (i j : ℕ) → i < length xs → j < length xs → get_or xs i 0 < get_or xs j 0 → i < j
place_before xs up i j a b below = elim (cases_lt i j) [
  | inl lt ↦ lt
  | inr ge ↦ elim (cases_lt j i) [
    | inl lt ↦ let h = up j i lt a in absurd (omega (arith, h, below))
    | inr le ↦
        let same : i ≡ j = omega (arith, ge, le) in
        let e : get_or xs i 0 ≡ get_or xs j 0 = ap (λ (k : ℕ). get_or xs k 0) same in
        absurd (omega (arith, e, below))
  ]
]
