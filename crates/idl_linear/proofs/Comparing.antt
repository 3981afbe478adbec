-- What a comparison's difference says.
use Rattle.std.proofs.Common.{refl, ap, sym, subst, ◌∙◌, arith, ◌≡◌, ℕ, List, [], ◌∷◌, ◌++◌, map, Bool, true, false, cond, ◌&&◌, ℤ, pos, negsuc, neg_ℤ, ◌+ℤ◌, ◌-ℤ◌, ◌*ℤ◌, get_or, Option, Some, None, Ok, Err}
use Rattle.std.proofs.lemmas.Int.{ints}
use Rattle.std.proofs.lemmas.Bool.Decides.{Decides-int_eq}
use Rattle.std.specs.List.{AllByRecursion}
use Rattle.std.specs.Ordering.{int_eq}
use Rattle.idl_linear.specs.declared.summand.Summand.{Summand}
use Rattle.idl_linear.specs.declared.difference.Difference.{Difference}
use Rattle.idl_linear.specs.declared.error.DifferenceRefusal.TheVariants.{BoundTooLarge}
use Rattle.idl_linear.specs.Limits.{number_limit}
use Rattle.idl_linear.specs.Linear.{LinearValue, collected, summands_of, sum_of, negative_summand, negative_of, is_within}
use Rattle.idl_linear.specs.Differences.{ends_of, difference_by, difference_of}
use Rattle.idl_linear.specs.Values.{summands_value, linear_value}
use Rattle.idl_linear.proofs.Products.{one-times, minus_one-times}
use Rattle.idl_linear.proofs.Sorting.{points-collected}
use Rattle.idl_linear.proofs.Valued.{value-sum, value-negative}

-- a list of a difference's ends
abbrev value_of : List ℤ → ℕ → ℤ
value_of values p = get_or values p (pos 0)

times_one : (c k : ℤ) → int_eq c (pos 1) ≡ true → c *ℤ k ≡ k
times_one c k e = ap (λ (z : ℤ). z *ℤ k) ((Decides-int_eq c (pos 1)).0 e) ∙ one-times k

times_minus_one : (c k : ℤ) → int_eq c (negsuc 0) ≡ true → c *ℤ k ≡ neg_ℤ k
times_minus_one c k e = ap (λ (z : ℤ). z *ℤ k) ((Decides-int_eq c (negsuc 0)).0 e) ∙ minus_one-times k

same_ends : (p q : ℕ × ℕ) → Some p ≡ Some q → p ≡ q
same_ends p q e = cc

module _ (values : List ℤ) (none : get_or values 0 (pos 0) ≡ pos 0) (p : ℕ × ℕ) where
  abbrev between : ℤ
  between = value_of values p.0 -ℤ value_of values p.1

  at_ends : (x y : ℕ) → Some (x, y) ≡ Some p → between ≡ value_of values x -ℤ value_of values y
  at_ends x y e = ap (λ (q : ℕ × ℕ). value_of values q.0 -ℤ value_of values q.1) (sym (same_ends (x, y) p e))

  one_end : (s : Summand) (b c : Bool) → int_eq s.coefficient (pos 1) ≡ b → int_eq s.coefficient (negsuc 0) ≡ c
      → cond b (Some (s.point, 0)) (cond c (Some (0, s.point)) None) ≡ Some p → summands_value values (s ∷ []) ≡ between
  one_end s true c e f h =
      let here = times_one s.coefficient (value_of values s.point) e in
      let there = at_ends s.point 0 h in
      omega (arith, ints, here, there, none)
  one_end s false true e f h =
      let here = times_minus_one s.coefficient (value_of values s.point) f in
      let there = at_ends 0 s.point h in
      omega (arith, ints, here, there, none)
  one_end s false false e f h = absurd cc

  swapped : (s t : Summand) → int_eq s.coefficient (negsuc 0) ≡ true → int_eq t.coefficient (pos 1) ≡ true → Some (t.point, s.point) ≡ Some p → summands_value values (s ∷ t ∷ []) ≡ between
  swapped s t k l h =
      let here = times_minus_one s.coefficient (value_of values s.point) k in
      let next = times_one t.coefficient (value_of values t.point) l in
      let there = at_ends t.point s.point h in
      omega (arith, ints, here, next, there)

  two_ends : (s t : Summand) (b c f g : Bool) → int_eq s.coefficient (pos 1) ≡ b → int_eq t.coefficient (negsuc 0) ≡ c → int_eq s.coefficient (negsuc 0) ≡ f → int_eq t.coefficient (pos 1) ≡ g
      → cond (b && c) (Some (s.point, t.point)) (cond (f && g) (Some (t.point, s.point)) None) ≡ Some p → summands_value values (s ∷ t ∷ []) ≡ between
  two_ends s t true true f g i j k l h =
      let here = times_one s.coefficient (value_of values s.point) i in
      let next = times_minus_one t.coefficient (value_of values t.point) j in
      let there = at_ends s.point t.point h in
      omega (arith, ints, here, next, there)
  two_ends s t true false true true i j k l h = swapped s t k l h
  two_ends s t true false true false i j k l h = absurd cc
  two_ends s t true false false g i j k l h = absurd cc
  two_ends s t false c true true i j k l h = swapped s t k l h
  two_ends s t false c true false i j k l h = absurd cc
  two_ends s t false c false g i j k l h = absurd cc

  pub value-ends : (l : List Summand) → ends_of l ≡ Some p → summands_value values l ≡ between
  value-ends [] h =
      let there = at_ends 0 0 h in
      omega (arith, ints, there)
  value-ends (s ∷ []) h = one_end s (int_eq s.coefficient (pos 1)) (int_eq s.coefficient (negsuc 0)) refl refl h
  value-ends (s ∷ t ∷ []) h = two_ends s t (int_eq s.coefficient (pos 1)) (int_eq t.coefficient (negsuc 0)) (int_eq s.coefficient (negsuc 0)) (int_eq t.coefficient (pos 1)) refl refl refl refl h
  value-ends (s ∷ t ∷ u ∷ us) h = absurd cc

-- what a difference is made of
pub record IsMadeOf (o : Option (ℕ × ℕ)) (constant : ℤ) (d : Difference) : Type 0 where
  pub ends : o ≡ Some (d.x, d.y)
  pub number : d.n ≡ neg_ℤ constant
  pub within : is_within number_limit d.n ≡ true

made_by : (p : ℕ × ℕ) (k : ℤ) (d : Difference) (b : Bool) → is_within number_limit (neg_ℤ k) ≡ b
    → cond b (Ok (record { x = p.0; y = p.1; n = neg_ℤ k })) (Err BoundTooLarge) ≡ Ok d → IsMadeOf (Some p) k d
made_by p k d true e h =
    let x : p.0 ≡ d.x = cc in
    let y : p.1 ≡ d.y = cc in
    let n : neg_ℤ k ≡ d.n = cc in
    record { ends = ap (λ (q : ℕ). Some (q, p.1)) x ∙ ap (λ (q : ℕ). Some (d.x, q)) y; number = sym n; within = ap (is_within number_limit) (sym n) ∙ e }
made_by p k d false e h = absurd cc

pub made_of : (o : Option (ℕ × ℕ)) (k : ℤ) (d : Difference) → difference_by o k ≡ Ok d → IsMadeOf o k d
made_of None k d h = absurd cc
made_of (Some p) k d h = made_by p k d (is_within number_limit (neg_ℤ k)) refl h

-- the value of a difference is its number, against which it is compared
pub value-difference : (values : List ℤ) (a b : LinearValue) (d : Difference) → get_or values 0 (pos 0) ≡ pos 0 → difference_of a b ≡ Ok d
    → (linear_value values a -ℤ linear_value values b) ≡ ((value_of values d.x -ℤ value_of values d.y) -ℤ d.n)
unfolding difference_of
value-difference values a b d none h =
    let made = made_of (ends_of (sum_of (a ∷ negative_of b ∷ [])).summands) (sum_of (a ∷ negative_of b ∷ [])).constant d h in
    let ends = value-ends values none (d.x, d.y) (sum_of (a ∷ negative_of b ∷ [])).summands made.ends in
    let sum = value-sum values (a ∷ negative_of b ∷ []) in
    let negative = value-negative values b in
    let number = made.number in
    omega (arith, ints, ends, sum, negative, number)

-- the number is within its limit
pub number-within : (a b : LinearValue) (d : Difference) → difference_of a b ≡ Ok d → is_within number_limit d.n ≡ true
unfolding difference_of
number-within a b d h = (made_of (ends_of (sum_of (a ∷ negative_of b ∷ [])).summands) (sum_of (a ∷ negative_of b ∷ [])).constant d h).within

-- its time points are those of the terms, or the zero point
module _ (P : ℕ → Type 0) (zero_point : P 0) (p : ℕ × ℕ) where
  abbrev Points : List Summand → Type 0
  Points l = AllByRecursion (λ (s : Summand). P s.point) l

  abbrev Both : Type 0
  Both = P p.0 × P p.1

  these : (x y : ℕ) → P x → P y → Some (x, y) ≡ Some p → Both
  these x y h k e = subst (λ (q : ℕ × ℕ). P q.0 × P q.1) (same_ends (x, y) p e) (h, k)

  one_point : (s : Summand) (b c : Bool) → P s.point → cond b (Some (s.point, 0)) (cond c (Some (0, s.point)) None) ≡ Some p → Both
  one_point s true c h e = these s.point 0 h zero_point e
  one_point s false true h e = these 0 s.point zero_point h e
  one_point s false false h e = absurd cc

  two_points : (s t : Summand) (b c : Bool) → P s.point → P t.point → cond b (Some (s.point, t.point)) (cond c (Some (t.point, s.point)) None) ≡ Some p → Both
  two_points s t true c h k e = these s.point t.point h k e
  two_points s t false true h k e = these t.point s.point k h e
  two_points s t false false h k e = absurd cc

  points-ends : (l : List Summand) → Points l → ends_of l ≡ Some p → Both
  points-ends [] h e = these 0 0 zero_point zero_point e
  points-ends (s ∷ []) h e = one_point s (int_eq s.coefficient (pos 1)) (int_eq s.coefficient (negsuc 0)) h.0 e
  points-ends (s ∷ t ∷ []) h e =
      two_points s t (int_eq s.coefficient (pos 1) && int_eq t.coefficient (negsuc 0)) (int_eq s.coefficient (negsuc 0) && int_eq t.coefficient (pos 1)) h.0 h.1.0 e
  points-ends (s ∷ t ∷ u ∷ us) h e = absurd cc

module _ (P : ℕ → Type 0) where
  points-negative : (l : List Summand) → AllByRecursion (λ (s : Summand). P s.point) l → AllByRecursion (λ (s : Summand). P s.point) (map negative_summand l)
  points-negative [] h = tt
  points-negative (s ∷ l) h = (h.0, points-negative l h.1)

  points-append : (l m : List Summand) → AllByRecursion (λ (s : Summand). P s.point) l → AllByRecursion (λ (s : Summand). P s.point) m → AllByRecursion (λ (s : Summand). P s.point) (l ++ m)
  points-append [] m h k = k
  points-append (s ∷ l) m h k = (h.0, points-append l m h.1 k)

  pub points-difference : (a b : LinearValue) (d : Difference) → P 0 → AllByRecursion (λ (s : Summand). P s.point) a.summands → AllByRecursion (λ (s : Summand). P s.point) b.summands
      → difference_of a b ≡ Ok d → P d.x × P d.y
  unfolding difference_of sum_of
  points-difference a b d zero_point h k e =
      let made = made_of (ends_of (collected (summands_of (a ∷ negative_of b ∷ [])))) (a.constant +ℤ (neg_ℤ b.constant +ℤ pos 0)) d e in
      points-ends P zero_point (d.x, d.y) (collected (summands_of (a ∷ negative_of b ∷ [])))
      (points-collected P (summands_of (a ∷ negative_of b ∷ []))
      (points-append a.summands (map negative_summand b.summands ++ []) h (points-append (map negative_summand b.summands) [] (points-negative b.summands k) tt)))
      made.ends
