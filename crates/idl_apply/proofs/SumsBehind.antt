-- A sum that is one term of another sum, whatever its summands are.
use Rattle.std.proofs.Common.{refl, ap, sym, ◌∙◌, arith, ◌≡◌, ◌≢◌, ℕ, suc, ◌<◌, ◌≤◌, ◌-◌, ◌==◌, nat_lt, List, [], ◌∷◌, ◌++◌, map, Bool, true, false, cond, ℤ, pos, ◌+ℤ◌}
use Rattle.std.proofs.lemmas.Bool.Decides.{nat_tests}
use Rattle.std.proofs.lemmas.Int.{ints}
use Rattle.std.proofs.lemmas.List.{map-append}
use Rattle.std.specs.Ordering.{int_eq}
use Rattle.idl_linear.specs.declared.summand.Summand.{Summand}
use Rattle.idl_linear.specs.Linear.{LinearValue, put_before, with_summand, collected, summands_of, constants_of, sum_of}
use Rattle.idl_linear.proofs.Coefficients.{AllAbove, ascend-collected, coefficient-append, coefficient-collected}
use Rattle.idl_linear.proofs.Collecting.{all_above-append, all_above-ascending, collected-same}
use Rattle.idl_linear.proofs.Totals.{summands-append, constants-append}
use Rattle.idl_cases.specs.code.CaseSums.{pair_sum}

-- ---- one time point further

abbrev up : Summand → Summand
up s = record { point = suc s.point; coefficient = s.coefficient }

abbrev down : Summand → Summand
down s = record { point = s.point - 1; coefficient = s.coefficient }

down_up : (xs : List Summand) → map down (map up xs) ≡ xs
down_up [] = refl
down_up (x ∷ xs) =
    let same : suc x.point - 1 ≡ x.point = omega arith in
    ap (λ (p : ℕ). record { point = p; coefficient = x.coefficient } ∷ map down (map up xs)) same ∙ ap (λ (ys : List Summand). x ∷ ys) (down_up xs)

put_by : (b : Bool) (s : Summand) (rest : List Summand) → cond b (map up rest) (up s ∷ map up rest) ≡ map up (cond b rest (s ∷ rest))
put_by true s rest = refl
put_by false s rest = refl

up_put : (s : Summand) (rest : List Summand) → put_before (up s) (map up rest) ≡ map up (put_before s rest)
up_put s rest = put_by (int_eq s.coefficient (pos 0)) s rest

with_by : (b c : Bool) (x y z u v w : List Summand) → x ≡ map up u → y ≡ map up v → z ≡ map up w → cond b x (cond c y z) ≡ map up (cond b u (cond c v w))
with_by true c x y z u v w e f g = e
with_by false true x y z u v w e f g = f
with_by false false x y z u v w e f g = g

same_lt : (a b : ℕ) (t : Bool) → nat_lt a b ≡ t → nat_lt (suc a) (suc b) ≡ t
same_lt a b true e =
    let less : a < b = grind (arith, nat_tests) in
    grind (arith, nat_tests)
same_lt a b false e =
    let least : b ≤ a = grind (arith, nat_tests) in
    grind (arith, nat_tests)

same_eq : (a b : ℕ) (t : Bool) → (a == b) ≡ t → (suc a == suc b) ≡ t
same_eq a b true e =
    let same : a ≡ b = grind (arith, nat_tests) in
    grind (arith, nat_tests)
same_eq a b false e =
    let other : a ≢ b = grind (arith, nat_tests) in
    grind (arith, nat_tests)

up_with : (s : Summand) (ts : List Summand) → with_summand (up s) (map up ts) ≡ map up (with_summand s ts)
up_with s [] = up_put s []
up_with s (t ∷ ts) =
    let less : nat_lt (suc s.point) (suc t.point) ≡ nat_lt s.point t.point = same_lt s.point t.point (nat_lt s.point t.point) refl in
    let same : (suc s.point == suc t.point) ≡ (s.point == t.point) = same_eq s.point t.point (s.point == t.point) refl in
    let before : List Summand = put_before (up s) (map up (t ∷ ts)) in
    let at : List Summand = put_before (up (record { point = t.point; coefficient = s.coefficient +ℤ t.coefficient })) (map up ts) in
    let behind : List Summand = up t ∷ with_summand (up s) (map up ts) in
    ap (λ (b : Bool). cond b before (cond (suc s.point == suc t.point) at behind)) less
    ∙ ap (λ (b : Bool). cond (nat_lt s.point t.point) before (cond b at behind)) same
    ∙ with_by (nat_lt s.point t.point) (s.point == t.point) (put_before (up s) (map up (t ∷ ts))) (put_before (up (record { point = t.point; coefficient = s.coefficient +ℤ t.coefficient })) (map up ts)) (up t ∷ with_summand (up s) (map up ts))
    (put_before s (t ∷ ts)) (put_before (record { point = t.point; coefficient = s.coefficient +ℤ t.coefficient }) ts) (t ∷ with_summand s ts)
    (up_put s (t ∷ ts)) (up_put (record { point = t.point; coefficient = s.coefficient +ℤ t.coefficient }) ts) (ap (λ (ys : List Summand). up t ∷ ys) (up_with s ts))

up_collected : (xs : List Summand) → collected (map up xs) ≡ map up (collected xs)
up_collected [] = refl
up_collected (x ∷ xs) = ap (with_summand (up x)) (up_collected xs) ∙ up_with x (collected xs)

above_up : (xs : List Summand) → AllAbove 0 (map up xs)
above_up [] = tt
above_up (x ∷ xs) = (omega arith, above_up xs)

-- ---- what is collected, and more

twice_above : (xs ys : List Summand) → AllAbove 0 xs → AllAbove 0 ys → collected (collected xs ++ ys) ≡ collected (xs ++ ys)
twice_above xs ys a b =
    collected-same 0 (collected xs ++ ys) (xs ++ ys) (all_above-append 0 (collected xs) ys (all_above-ascending 0 (collected xs) (ascend-collected 0 xs a)) b) (all_above-append 0 xs ys a b)
    (λ p.
    let first = coefficient-append p (collected xs) ys in
    let all = coefficient-append p xs ys in
    let same = coefficient-collected p xs in
    omega (arith, ints, first, all, same))

collected_twice : (xs ys : List Summand) → collected (collected xs ++ ys) ≡ collected (xs ++ ys)
collected_twice xs ys =
    let same : map up (collected (collected xs ++ ys)) ≡ map up (collected (xs ++ ys)) =
    sym (up_collected (collected xs ++ ys))
    ∙ ap collected (map-append up (collected xs) ys ∙ ap (λ (zs : List Summand). zs ++ map up ys) (sym (up_collected xs)))
    ∙ twice_above (map up xs) (map up ys) (above_up xs) (above_up ys)
    ∙ ap collected (sym (map-append up xs ys))
    ∙ up_collected (xs ++ ys) in
    sym (down_up (collected (collected xs ++ ys))) ∙ ap (map down) same ∙ down_up (collected (xs ++ ys))

abbrev linear : List Summand → ℤ → LinearValue
linear summands constant = record { summands = summands; constant = constant }

-- one term more
pub sum_behind : (ls : List LinearValue) (l : LinearValue) → pair_sum (sum_of ls) l ≡ sum_of (ls ++ l ∷ [])
unfolding sum_of
sum_behind ls l =
    ap (λ (xs : List Summand). linear xs (constants_of ls +ℤ (l.constant +ℤ pos 0))) (collected_twice (summands_of ls) (l.summands ++ []) ∙ ap collected (sym (summands-append ls (l ∷ []))))
    ∙ ap (λ (z : ℤ). linear (collected (summands_of (ls ++ l ∷ []))) z) (sym (constants-append ls (l ∷ [])))
