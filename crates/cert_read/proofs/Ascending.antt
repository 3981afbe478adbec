-- Numerals that ascend, and the points that they are read as.
use Rattle.std.proofs.Common.{◌≡◌, refl, sym, subst, arith, ℕ, zero, suc, ◌+◌, ◌-◌, ◌<◌, ◌^◌, Bool, true, false, true≢false, List, [], ◌∷◌, map, get_or}
use Rattle.std.specs.Prelude.{All, min, nat_lt, ◌&&◌}
use Rattle.std.specs.List.{AllByRecursion}
use Rattle.std.specs.List.Sorted.{IsStrictlyIncreasing}
use Rattle.std.proofs.lemmas.Bool.{ltb-true, lt-ltb}
use Rattle.std.proofs.lemmas.List.Elements.{recursion_from_All}
use Rattle.cert_read.specs.Parts.{ascends_from, ascends}

abbrev pub nearest : ℕ → ℕ
nearest n = min n 4294967295

-- ---- the test, and the order

both_pass : (p q : Bool) → (p && q) ≡ true → (p ≡ true) × (q ≡ true)
both_pass true q h = (refl, h)
both_pass false q h = absurd (true≢false (sym h))

-- a place further
at_shift : (n m k : ℕ) (ms : List ℕ) → (get_or (m ∷ ms) k 0 < get_or (m ∷ ms) (k + 1) 0) → get_or (n ∷ m ∷ ms) (suc k) 0 < get_or (n ∷ m ∷ ms) (suc k + 1) 0
at_shift n m k ms h =
    let e : suc k + 1 ≡ suc (k + 1) = omega arith in
    subst (λ (j : ℕ). get_or (m ∷ ms) k 0 < get_or (n ∷ m ∷ ms) j 0) (sym e) h

up : (n : ℕ) (ms : List ℕ) → ascends_from n ms ≡ true → IsStrictlyIncreasing (n ∷ ms)
up n [] h k lt = absurd (omega (arith, lt))
up n (m ∷ ms) h zero lt = ltb-true n m (both_pass (nat_lt n m) (ascends_from m ms) h).0
up n (m ∷ ms) h (suc k) lt = at_shift n m k ms (up m ms (both_pass (nat_lt n m) (ascends_from m ms) h).1 k (omega (arith, lt)))

pub ascends_up : (ns : List ℕ) → ascends ns ≡ true → IsStrictlyIncreasing ns
ascends_up [] h = λ k lt. absurd (omega (arith, lt))
ascends_up (n ∷ ns) h = up n ns h

at_back : (n m k : ℕ) (ms : List ℕ) → get_or (n ∷ m ∷ ms) (suc k) 0 < get_or (n ∷ m ∷ ms) (suc k + 1) 0 → get_or (m ∷ ms) k 0 < get_or (m ∷ ms) (k + 1) 0
at_back n m k ms h =
    let e : suc k + 1 ≡ suc (k + 1) = omega arith in
    subst (λ (j : ℕ). get_or (m ∷ ms) k 0 < get_or (n ∷ m ∷ ms) j 0) e h

passes : (n : ℕ) (ms : List ℕ) → IsStrictlyIncreasing (n ∷ ms) → ascends_from n ms ≡ true
passes n [] h = refl
passes n (m ∷ ms) h =
    let first : n < m = h 0 (omega arith) in
    rw (lt-ltb n m first) (passes m ms (λ k lt. at_back n m k ms (h (suc k) (omega (arith, lt)))))

pub ascends_passes : (ns : List ℕ) → IsStrictlyIncreasing ns → ascends ns ≡ true
ascends_passes [] h = refl
ascends_passes (n ∷ ns) h = passes n ns h

-- ---- as points

small_kept : (ns : List ℕ) → AllByRecursion (λ (p : ℕ). p < 2 ^ 32) ns → map nearest ns ≡ ns
small_kept [] h = refl
small_kept (n ∷ ns) h =
    let first : nearest n ≡ n = omega (arith, h.0) in
    λ i. first i ∷ small_kept ns h.1 i

pub points_kept : (ns : List ℕ) → All (λ (p : ℕ). p < 2 ^ 32) ns → map nearest ns ≡ ns
points_kept ns h = small_kept ns (recursion_from_All (λ (p : ℕ). p < 2 ^ 32) ns h)

plain_kept : (ns : List ℕ) → AllByRecursion (λ (p : ℕ). p < 2 ^ 32 - 1) (map nearest ns) → map nearest ns ≡ ns
plain_kept [] h = refl
plain_kept (n ∷ ns) h =
    let first : nearest n ≡ n = omega (arith, h.0) in
    λ i. first i ∷ plain_kept ns h.1 i

pub points_plain : (ns : List ℕ) → All (λ (p : ℕ). p < 2 ^ 32 - 1) (map nearest ns) → map nearest ns ≡ ns
points_plain ns h = plain_kept ns (recursion_from_All (λ (p : ℕ). p < 2 ^ 32 - 1) (map nearest ns) h)
