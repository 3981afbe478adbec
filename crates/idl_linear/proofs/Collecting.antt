-- What is collected doesn't depend on the order.
use Rattle.std.proofs.Common.{refl, ap, sym, ◌∙◌, arith, ◌≡◌, ℕ, ◌<◌, ◌≤◌, ◌==◌, List, [], ◌∷◌, ◌++◌, map, Bool, true, false, cond, ℤ, pos, ◌+ℤ◌}
use Rattle.std.proofs.lemmas.Int.{ints}
use Rattle.idl_linear.specs.declared.summand.Summand.{Summand}
use Rattle.idl_linear.specs.Linear.{put_before, with_summand, collected, negative_summand}
use Rattle.idl_linear.specs.Forms.{AscendAbove}
use Rattle.idl_linear.specs.code.Trees.{part_at, coefficient_at}
use Rattle.idl_linear.proofs.Coefficients.{summand, coefficient-put, coefficient-with, coefficient-collected, coefficient-append, ascend_weaker, same_by_coefficients, ascend-put, ascend-with, AllAbove, ascend-collected}

-- an insertion before everything
pub with-before : (m : ℕ) (s : Summand) (xs : List Summand) → m < s.point → AscendAbove s.point xs → with_summand s xs ≡ put_before s xs
with-before m s xs above a =
    same_by_coefficients m (with_summand s xs) (put_before s xs) (ascend-with m s xs above (ascend_weaker m s.point xs above a)) (ascend-put m s xs above a)
    (λ p. coefficient-with p s xs ∙ sym (coefficient-put p s xs))

part_sum : (b : Bool) (c d : ℤ) → cond b (c +ℤ d) (pos 0) ≡ cond b c (pos 0) +ℤ cond b d (pos 0)
part_sum true c d = refl
part_sum false c d = refl

part_none : (b : Bool) → cond b (pos 0) (pos 0) ≡ pos 0
part_none true = refl
part_none false = refl

-- insertions at one point add up
pub with-same : (m p : ℕ) (c d : ℤ) (xs : List Summand) → m < p → AscendAbove m xs
    → with_summand (record { point = p; coefficient = c }) (with_summand (record { point = p; coefficient = d }) xs) ≡ with_summand (record { point = p; coefficient = c +ℤ d }) xs
with-same m p c d xs above a =
    same_by_coefficients m (with_summand (summand p c) (with_summand (summand p d) xs)) (with_summand (summand p (c +ℤ d)) xs)
    (ascend-with m (summand p c) (with_summand (summand p d) xs) above (ascend-with m (summand p d) xs above a)) (ascend-with m (summand p (c +ℤ d)) xs above a)
    (λ q.
    let first = coefficient-with q (summand p c) (with_summand (summand p d) xs) in
    let then = coefficient-with q (summand p d) xs in
    let other = coefficient-with q (summand p (c +ℤ d)) xs in
    let parts : part_at q (summand p (c +ℤ d)) ≡ part_at q (summand p c) +ℤ part_at q (summand p d) = part_sum (p == q) c d in
    omega (arith, ints, first, then, other, parts))

-- a summand of nothing
pub with-zero : (m p : ℕ) (xs : List Summand) → m < p → AscendAbove m xs → with_summand (record { point = p; coefficient = pos 0 }) xs ≡ xs
with-zero m p xs above a =
    same_by_coefficients m (with_summand (summand p (pos 0)) xs) xs (ascend-with m (summand p (pos 0)) xs above a) a
    (λ q.
    let first = coefficient-with q (summand p (pos 0)) xs in
    let none : part_at q (summand p (pos 0)) ≡ pos 0 = part_none (p == q) in
    omega (arith, ints, first, none))

-- what ascends is collected already
pub collected-ascending : (m : ℕ) (xs : List Summand) → AscendAbove m xs → collected xs ≡ xs
collected-ascending m [] a = refl
collected-ascending m (x ∷ xs) a =
    ap (with_summand x) (collected-ascending x.point xs a.2)
    ∙ same_by_coefficients m (with_summand x xs) (x ∷ xs) (ascend-with m x xs a.0 (ascend_weaker m x.point xs a.0 a.2)) a (λ p. coefficient-with p x xs)

-- the same summands in another order
pub collected-same : (m : ℕ) (xs ys : List Summand) → AllAbove m xs → AllAbove m ys → ((p : ℕ) → coefficient_at p xs ≡ coefficient_at p ys) → collected xs ≡ collected ys
collected-same m xs ys above over e =
    same_by_coefficients m (collected xs) (collected ys) (ascend-collected m xs above) (ascend-collected m ys over)
    (λ p. coefficient-collected p xs ∙ e p ∙ sym (coefficient-collected p ys))

pub all_above-append : (m : ℕ) (xs ys : List Summand) → AllAbove m xs → AllAbove m ys → AllAbove m (xs ++ ys)
all_above-append m [] ys a b = b
all_above-append m (x ∷ xs) ys a b = (a.0, all_above-append m xs ys a.1 b)

pub all_above-negatives : (m : ℕ) (xs : List Summand) → AllAbove m xs → AllAbove m (map negative_summand xs)
all_above-negatives m [] a = tt
all_above-negatives m (x ∷ xs) a = (a.0, all_above-negatives m xs a.1)

pub all_above-ascending : (m : ℕ) (xs : List Summand) → AscendAbove m xs → AllAbove m xs
all_above-ascending m [] a = tt
all_above-ascending m (x ∷ xs) a = (a.0, all_above-ascending m xs (ascend_weaker m x.point xs a.0 a.2))

pub all_above-weaker : (m n : ℕ) (xs : List Summand) → m ≤ n → AllAbove n xs → AllAbove m xs
all_above-weaker m n [] le a = tt
all_above-weaker m n (x ∷ xs) le a = (omega arith, all_above-weaker m n xs le a.1)

-- an item in the middle goes in like any
pub collected-middle : (m : ℕ) (xs : List Summand) (s : Summand) (ys : List Summand) → AllAbove m xs → m < s.point → AllAbove m ys → collected (xs ++ s ∷ ys) ≡ with_summand s (collected (xs ++ ys))
collected-middle m xs s ys a lt b =
    collected-same m (xs ++ s ∷ ys) (s ∷ (xs ++ ys)) (all_above-append m xs (s ∷ ys) a (lt, b)) (lt, all_above-append m xs ys a b)
    (λ p.
    let long = coefficient-append p xs (s ∷ ys) in
    let short = coefficient-append p xs ys in
    omega (arith, ints, long, short))
