-- Values of sums of linear terms.
use Rattle.std.proofs.Common.{refl, ap, sym, ◌∙◌, arith, ◌≡◌, ℕ, ◌==◌, nat_lt, List, [], ◌∷◌, ◌++◌, map, Bool, true, false, cond, ℤ, pos, neg_ℤ, ◌+ℤ◌, ◌*ℤ◌, get_or}
use Rattle.std.proofs.lemmas.Int.{ints}
use Rattle.std.proofs.lemmas.Bool.Decides.{nat_tests, Decides-int_eq}
use Rattle.std.proofs.Math.IntN.{zero-*ℤ, +ℤ_idl}
use Rattle.std.specs.Ordering.{int_eq}
use Rattle.idl_linear.specs.declared.summand.Summand.{Summand}
use Rattle.idl_linear.specs.Linear.{LinearValue, put_before, with_summand, collected, summands_of, constants_of, sum_of, negative_summand, negative_of, less_others, number_alone, point_alone}
use Rattle.idl_linear.specs.Values.{summands_value, linear_value, sum_of_values, subtracted}
use Rattle.idl_linear.proofs.Coefficients.{summand}
use Rattle.idl_linear.proofs.Products.{add-times, negative-times, one-times}

abbrev one_value : List ℤ → Summand → ℤ
one_value values s = s.coefficient *ℤ get_or values s.point (pos 0)

put_by : (values : List ℤ) (s : Summand) (rest : List Summand) (b : Bool) → int_eq s.coefficient (pos 0) ≡ b → summands_value values (cond b rest (s ∷ rest)) ≡ one_value values s +ℤ summands_value values rest
put_by values s rest true e =
    let none : one_value values s ≡ pos 0 = ap (λ (c : ℤ). c *ℤ get_or values s.point (pos 0)) ((Decides-int_eq s.coefficient (pos 0)).0 e) ∙ zero-*ℤ (get_or values s.point (pos 0)) in
    omega (arith, ints, none)
put_by values s rest false e = refl

value-put : (values : List ℤ) (s : Summand) (rest : List Summand) → summands_value values (put_before s rest) ≡ one_value values s +ℤ summands_value values rest
value-put values s rest = put_by values s rest (int_eq s.coefficient (pos 0)) refl

with_by : (values : List ℤ) (s t : Summand) (ts rest : List Summand) (b c : Bool) → (s.point == t.point) ≡ c → summands_value values rest ≡ one_value values s +ℤ summands_value values ts
    → summands_value values (cond b (put_before s (t ∷ ts)) (cond c (put_before (record { point = t.point; coefficient = s.coefficient +ℤ t.coefficient }) ts) (t ∷ rest))) ≡ one_value values s +ℤ summands_value values (t ∷ ts)
with_by values s t ts rest true c e h = value-put values s (t ∷ ts)
with_by values s t ts rest false true e h =
    let same : s.point ≡ t.point = grind (arith, nat_tests) in
    let put = value-put values (summand t.point (s.coefficient +ℤ t.coefficient)) ts in
    let parts = add-times s.coefficient t.coefficient (get_or values t.point (pos 0)) in
    let moved = ap (λ (k : ℕ). s.coefficient *ℤ get_or values k (pos 0)) same in
    omega (arith, ints, put, parts, moved)
with_by values s t ts rest false false e h = omega (arith, ints, h)

value-with : (values : List ℤ) (s : Summand) (ts : List Summand) → summands_value values (with_summand s ts) ≡ one_value values s +ℤ summands_value values ts
value-with values s [] = value-put values s []
value-with values s (t ∷ ts) = with_by values s t ts (with_summand s ts) (nat_lt s.point t.point) (s.point == t.point) refl (value-with values s ts)

pub value-collected : (values : List ℤ) (xs : List Summand) → summands_value values (collected xs) ≡ summands_value values xs
value-collected values [] = refl
value-collected values (s ∷ rest) = value-with values s (collected rest) ∙ ap (λ (z : ℤ). one_value values s +ℤ z) (value-collected values rest)

pub value-append : (values : List ℤ) (xs ys : List Summand) → summands_value values (xs ++ ys) ≡ summands_value values xs +ℤ summands_value values ys
value-append values [] ys = sym (+ℤ_idl (summands_value values ys))
value-append values (x ∷ xs) ys =
    let rest = value-append values xs ys in
    omega (arith, ints, rest)

value-negatives : (values : List ℤ) (xs : List Summand) → summands_value values (map negative_summand xs) ≡ neg_ℤ (summands_value values xs)
value-negatives values [] = refl
value-negatives values (x ∷ xs) =
    let rest = value-negatives values xs in
    let here = negative-times x.coefficient (get_or values x.point (pos 0)) in
    omega (arith, ints, rest, here)

parts : (values : List ℤ) (ls : List LinearValue) → summands_value values (summands_of ls) +ℤ constants_of ls ≡ sum_of_values values ls
parts values [] = refl
parts values (l ∷ ls) =
    let rest = parts values ls in
    let joined = value-append values l.summands (summands_of ls) in
    omega (arith, ints, rest, joined)

-- the value of a sum is the sum of the values
pub value-sum : (values : List ℤ) (ls : List LinearValue) → linear_value values (sum_of ls) ≡ sum_of_values values ls
unfolding sum_of
value-sum values ls = ap (λ (z : ℤ). z +ℤ constants_of ls) (value-collected values (summands_of ls)) ∙ parts values ls

pub value-negative : (values : List ℤ) (l : LinearValue) → linear_value values (negative_of l) ≡ neg_ℤ (linear_value values l)
value-negative values l =
    let all = value-negatives values l.summands in
    omega (arith, ints, all)

others : (values : List ℤ) (ls : List LinearValue) → sum_of_values values (map negative_of ls) ≡ neg_ℤ (sum_of_values values ls)
others values [] = refl
others values (l ∷ ls) =
    let rest = others values ls in
    let here = value-negative values l in
    omega (arith, ints, rest, here)

-- the value of a difference is the difference of the values
pub value-less : (values : List ℤ) (ls : List LinearValue) → linear_value values (less_others ls) ≡ subtracted values ls
value-less values [] = refl
value-less values (l ∷ []) =
    let sum = value-sum values (negative_of l ∷ []) in
    let here = value-negative values l in
    omega (arith, ints, sum, here)
value-less values (l ∷ m ∷ ms) =
    let sum = value-sum values (l ∷ map negative_of (m ∷ ms)) in
    let rest = others values (m ∷ ms) in
    omega (arith, ints, sum, rest)

pub value-number : (values : List ℤ) (n : ℤ) → linear_value values (number_alone n) ≡ n
value-number values n = +ℤ_idl n

pub value-point : (values : List ℤ) (point : ℕ) → linear_value values (point_alone point) ≡ get_or values point (pos 0)
value-point values point =
    let once = one-times (get_or values point (pos 0)) in
    omega (arith, ints, once)
