-- The atoms of comparisons: over Int names' time points, and true exactly where the comparison holds.
use Rattle.std.proofs.Common.{refl, ap, sym, arith, inl, inr, ◌≡◌, ◌<◌, ◌+◌, ℕ, zero, suc, List, [], ◌∷◌, length, get_or, Bool, true, false, not, ◌&&◌, ◌||◌, Option, Some, None, ℤ, pos, neg_ℤ, ◌+ℤ◌, ◌-ℤ◌}
use Rattle.std.specs.Prelude.{Result, Ok, Err, int_le, int_lt, slice_get, ◌≤ℤ◌}
use Rattle.std.specs.Ordering.{int_eq}
use Rattle.std.proofs.lemmas.Int.{ints}
use Rattle.stn_core.specs.declared.literal.Literal.{Literal}
use Rattle.stn_core.specs.Literal.{negation_of, value_at}
use Rattle.idl_linear.specs.Limits.{number_limit}
use Rattle.idl_linear.specs.declared.difference.Difference.{Difference}
use Rattle.idl_linear.specs.declared.error.DifferenceRefusal.{DifferenceRefusal}
use Rattle.idl_linear.specs.Linear.{LinearValue, is_within}
use Rattle.idl_linear.specs.Differences.{difference_of}
use Rattle.idl_linear.specs.Values.{linear_value}
use Rattle.idl_linear.proofs.Comparing.{value-difference, number-within, points-difference}
use Rattle.idl_node.specs.declared.sort.Sort.{Sort}
use Rattle.idl_node.specs.declared.sort.Sort.TheVariants as sort
use Rattle.idl_node.specs.Nodes.{NodeValue, atom, conjunction, disjunction, Placed, placed}
use Rattle.idl_node.specs.Making.{then}
use Rattle.idl_node.specs.Meaning.{IsMade}
use Rattle.idl_node.specs.Sorts.{IsIntPoint, IsAtomFor}
use Rattle.idl_node.specs.Tables.{IsTableOf}
use Rattle.idl_node.proofs.Growing.{then-is, placed-made}
use Rattle.idl_node.proofs.Makers.{both-made, either-made}
use Rattle.idl_apply.specs.declared.comparing.Relation.{Relation}
use Rattle.idl_apply.specs.declared.comparing.Relation.TheVariants.{AtMost, Less, AtLeast, Greater, Equal, Distinct}
use Rattle.idl_apply.specs.declared.error.TermRefusal.{TermRefusal}
use Rattle.idl_apply.specs.Comparing.{follows, or_too_large, at_most, below, at_least, above, related, related_by, compared}
use Rattle.idl_value.specs.CaseValues.{IsLinearFor}

-- ---- one step and another

pub record IsFollowed {A B : Type 0} (first : Result A TermRefusal) (next : A → Result B TermRefusal) (last : B) : Type 0 where
  pub middle : A
  pub begins : first ≡ Ok middle
  pub goes_on : next middle ≡ Ok last

pub follows-is : {A B : Type 0} (first : Result A TermRefusal) (next : A → Result B TermRefusal) (last : B) → follows first next ≡ Ok last → IsFollowed first next last
follows-is (Ok a) next last e = record { middle = a; begins = refl; goes_on = e }
follows-is (Err why) next last e = absurd cc

pub placed_is : (made : Option Placed) (p : Placed) → or_too_large made ≡ Ok p → made ≡ Some p
placed_is None p e = absurd cc
placed_is (Some q) p e = cc

-- ---- good atoms

pub points_below : (sorts : List Sort) (p : ℕ) (s : Sort) → slice_get sorts p ≡ Some s → p < length sorts
points_below [] p s e = absurd cc
points_below (t ∷ sorts) zero s e = omega arith
points_below (t ∷ sorts) (suc p) s e = let rest = points_below sorts p s e in omega (arith, rest)

int_point_in : (sorts : List Sort) (p : ℕ) → IsIntPoint sorts p → p < length sorts + 1
int_point_in sorts zero h = omega arith
int_point_in sorts (suc p) h = let rest = points_below sorts p sort.Int h in omega (arith, rest)

pub atom_negates : (sorts : List Sort) (l : Literal) → IsAtomFor sorts l → IsAtomFor sorts (negation_of l)
atom_negates sorts l h =
    let over = h.over in
    record {
      over = record { x_in = over.y_in; y_in = over.x_in; low = omega (arith, ints, over.high); high = omega (arith, ints, over.low) };
      kind = elim h.kind [
        | inl int ↦ inl (record { x = int.y; y = int.x })
        | inr bool ↦ elim bool [
          | inl truth_atom ↦ inr (inr (record { x = truth_atom.y; y = truth_atom.x; c = ap (λ (c : ℤ). neg_ℤ c -ℤ pos 1) truth_atom.c }))
          | inr false_atom ↦ inr (inl (record { x = false_atom.y; y = false_atom.x; c = ap (λ (c : ℤ). neg_ℤ c -ℤ pos 1) false_atom.c }))
        ]
      ];
    }

within_limit : (n : ℤ) → is_within number_limit n ≡ true → (neg_ℤ (pos number_limit) ≤ℤ n) × (n ≤ℤ pos number_limit)
within_limit n e = grind (arith, ints)

module _ (sorts : List Sort) (d : Difference) (x : IsIntPoint sorts d.x) (y : IsIntPoint sorts d.y) (within : is_within number_limit d.n ≡ true) where
  from_x : (c : ℤ) → neg_ℤ (pos (number_limit + 1)) ≤ℤ c → c ≤ℤ pos number_limit → IsAtomFor sorts (record { x = d.x; y = d.y; c = c })
  from_x c low high = record {
    over = record { x_in = int_point_in sorts d.x x; y_in = int_point_in sorts d.y y; low = omega (arith, ints, low); high = omega (arith, ints, high) };
    kind = inl (record { x = x; y = y });
  }

  from_y : (c : ℤ) → neg_ℤ (pos (number_limit + 1)) ≤ℤ c → c ≤ℤ pos number_limit → IsAtomFor sorts (record { x = d.y; y = d.x; c = c })
  from_y c low high = record {
    over = record { x_in = int_point_in sorts d.y y; y_in = int_point_in sorts d.x x; low = omega (arith, ints, low); high = omega (arith, ints, high) };
    kind = inl (record { x = y; y = x });
  }

  good_at_most : IsAtomFor sorts (at_most d)
  good_at_most = let w = within_limit d.n within in from_x d.n (omega (arith, ints, w.0)) (omega (arith, ints, w.1))

  good_below : IsAtomFor sorts (below d)
  good_below = let w = within_limit d.n within in from_x (d.n -ℤ pos 1) (omega (arith, ints, w.0)) (omega (arith, ints, w.1))

  good_at_least : IsAtomFor sorts (at_least d)
  good_at_least = let w = within_limit d.n within in from_y (neg_ℤ d.n) (omega (arith, ints, w.1)) (omega (arith, ints, w.0))

  good_above : IsAtomFor sorts (above d)
  good_above = let w = within_limit d.n within in from_y (neg_ℤ d.n -ℤ pos 1) (omega (arith, ints, w.1)) (omega (arith, ints, w.0))

-- ---- what atoms say

-- whether the relation holds between two numbers
abbrev pub relation_test : Relation → ℤ → ℤ → Bool
relation_test AtMost a b = int_le a b
relation_test Less a b = int_lt a b
relation_test AtLeast a b = int_le b a
relation_test Greater a b = int_lt b a
relation_test Equal a b = int_eq a b
relation_test Distinct a b = not (int_eq a b)

-- the same of a difference and a number
abbrev difference_test : Relation → ℤ → ℤ → ℤ → Bool
difference_test AtMost x y n = int_le (x -ℤ y) n
difference_test Less x y n = int_le (x -ℤ y) (n -ℤ pos 1)
difference_test AtLeast x y n = int_le (y -ℤ x) (neg_ℤ n)
difference_test Greater x y n = int_le (y -ℤ x) (neg_ℤ n -ℤ pos 1)
difference_test Equal x y n = int_le (x -ℤ y) n && int_le (y -ℤ x) (neg_ℤ n)
difference_test Distinct x y n = int_le (x -ℤ y) (n -ℤ pos 1) || int_le (y -ℤ x) (neg_ℤ n -ℤ pos 1)

-- two bounds are one equation
two_bounds : (a b : ℤ) (c d e : Bool) → int_le a b ≡ c → int_le b a ≡ d → int_eq a b ≡ e → (c && d) ≡ e
two_bounds a b true true true f g h = refl
two_bounds a b true true false f g h = grind (arith, ints)
two_bounds a b true false true f g h = grind (arith, ints)
two_bounds a b true false false f g h = refl
two_bounds a b false d true f g h = grind (arith, ints)
two_bounds a b false d false f g h = refl

neither_bound : (a b : ℤ) (c d e : Bool) → int_lt a b ≡ c → int_lt b a ≡ d → int_eq a b ≡ e → (c || d) ≡ not e
neither_bound a b false false false f g h = grind (arith, ints)
neither_bound a b false false true f g h = refl
neither_bound a b false true false f g h = refl
neither_bound a b false true true f g h = grind (arith, ints)
neither_bound a b true d false f g h = refl
neither_bound a b true d true f g h = grind (arith, ints)

int_le_is : (a b : ℤ) → int_le a b ≡ true → a ≤ℤ b
int_le_is a b e = grind (arith, ints)

is_int_le : (a b : ℤ) → a ≤ℤ b → int_le a b ≡ true
is_int_le a b e = grind (arith, ints)

int_lt_is : (a b : ℤ) → int_lt a b ≡ true → (a +ℤ pos 1) ≤ℤ b
int_lt_is a b e = grind (arith, ints)

is_int_lt : (a b : ℤ) → (a +ℤ pos 1) ≤ℤ b → int_lt a b ≡ true
is_int_lt a b e = grind (arith, ints)

same_truth : (c d : Bool) → (c ≡ true → d ≡ true) → (d ≡ true → c ≡ true) → c ≡ d
same_truth true true f g = refl
same_truth true false f g = sym (f refl)
same_truth false true f g = g refl
same_truth false false f g = refl

module _ (a b x y n : ℤ) (e : (a -ℤ b) ≡ ((x -ℤ y) -ℤ n)) where
  at_most_says : int_le (x -ℤ y) n ≡ int_le a b
  at_most_says = same_truth (int_le (x -ℤ y) n) (int_le a b)
      (λ h. (let k = int_le_is (x -ℤ y) n h in is_int_le a b (omega (arith, ints, k, e))))
      (λ h. (let k = int_le_is a b h in is_int_le (x -ℤ y) n (omega (arith, ints, k, e))))

  below_says : int_le (x -ℤ y) (n -ℤ pos 1) ≡ int_lt a b
  below_says = same_truth (int_le (x -ℤ y) (n -ℤ pos 1)) (int_lt a b)
      (λ h. (let k = int_le_is (x -ℤ y) (n -ℤ pos 1) h in is_int_lt a b (omega (arith, ints, k, e))))
      (λ h. (let k = int_lt_is a b h in is_int_le (x -ℤ y) (n -ℤ pos 1) (omega (arith, ints, k, e))))

  at_least_says : int_le (y -ℤ x) (neg_ℤ n) ≡ int_le b a
  at_least_says = same_truth (int_le (y -ℤ x) (neg_ℤ n)) (int_le b a)
      (λ h. (let k = int_le_is (y -ℤ x) (neg_ℤ n) h in is_int_le b a (omega (arith, ints, k, e))))
      (λ h. (let k = int_le_is b a h in is_int_le (y -ℤ x) (neg_ℤ n) (omega (arith, ints, k, e))))

  above_says : int_le (y -ℤ x) (neg_ℤ n -ℤ pos 1) ≡ int_lt b a
  above_says = same_truth (int_le (y -ℤ x) (neg_ℤ n -ℤ pos 1)) (int_lt b a)
      (λ h. (let k = int_le_is (y -ℤ x) (neg_ℤ n -ℤ pos 1) h in is_int_lt b a (omega (arith, ints, k, e))))
      (λ h. (let k = int_lt_is b a h in is_int_le (y -ℤ x) (neg_ℤ n -ℤ pos 1) (omega (arith, ints, k, e))))

difference_says : (relation : Relation) (a b x y n : ℤ) → (a -ℤ b) ≡ ((x -ℤ y) -ℤ n) → difference_test relation x y n ≡ relation_test relation a b
difference_says AtMost a b x y n e = at_most_says a b x y n e
difference_says Less a b x y n e = below_says a b x y n e
difference_says AtLeast a b x y n e = at_least_says a b x y n e
difference_says Greater a b x y n e = above_says a b x y n e
difference_says Equal a b x y n e = two_bounds a b (int_le (x -ℤ y) n) (int_le (y -ℤ x) (neg_ℤ n)) (int_eq a b) (sym (at_most_says a b x y n e)) (sym (at_least_says a b x y n e)) refl
difference_says Distinct a b x y n e = neither_bound a b (int_le (x -ℤ y) (n -ℤ pos 1)) (int_le (y -ℤ x) (neg_ℤ n -ℤ pos 1)) (int_eq a b) (sym (below_says a b x y n e)) (sym (above_says a b x y n e)) refl

-- ---- what is made of a pair

-- a node whose meaning is the test, where the zero point's value is 0
pub record IsTested (Good : Literal → Type 0) (nodes : List NodeValue) (q : Placed) (test : List ℤ → Bool) : Type 0 where
  pub meaning : List ℤ → Bool
  pub made : IsMade Good nodes q meaning
  pub same : (values : List ℤ) → get_or values 0 (pos 0) ≡ pos 0 → meaning values ≡ test values

module _ (sorts : List Sort) (nodes : List NodeValue) (table : IsTableOf (IsAtomFor sorts) nodes) where
  abbrev Good : Literal → Type 0
  Good = IsAtomFor sorts

  module _ (d : Difference) (x : IsIntPoint sorts d.x) (y : IsIntPoint sorts d.y) (within : is_within number_limit d.n ≡ true) (q : Placed) where
    abbrev test_of : Relation → List ℤ → Bool
    test_of relation values = difference_test relation (value_at values d.x) (value_at values d.y) d.n

    related_made : (relation : Relation) → related nodes relation d ≡ Some q → IsMade Good nodes q (test_of relation)
    related_made AtMost e = placed-made Good nodes table (atom (at_most d)) (good_at_most sorts d x y within) q e
    related_made Less e = placed-made Good nodes table (atom (below d)) (good_below sorts d x y within) q e
    related_made AtLeast e = placed-made Good nodes table (atom (at_least d)) (good_at_least sorts d x y within) q e
    related_made Greater e = placed-made Good nodes table (atom (above d)) (good_above sorts d x y within) q e
    related_made Equal e =
        let t = then-is (placed nodes (atom (at_most d))) (λ p. (then) (placed p.nodes (atom (at_least d))) (λ r. placed r.nodes (conjunction (p.number ∷ r.number ∷ [])))) q e in
        let p : Placed = t.middle in
        let u = then-is (placed p.nodes (atom (at_least d))) (λ r. placed r.nodes (conjunction (p.number ∷ r.number ∷ []))) q t.goes_on in
        let r : Placed = u.middle in
        let one = placed-made Good nodes table (atom (at_most d)) (good_at_most sorts d x y within) p t.begins in
        let two = placed-made Good p.nodes one.table (atom (at_least d)) (good_at_least sorts d x y within) r u.begins in
        both-made Good nodes table p r (test_of AtMost) (test_of AtLeast) one two q u.goes_on
    related_made Distinct e =
        let t = then-is (placed nodes (atom (below d))) (λ p. (then) (placed p.nodes (atom (above d))) (λ r. placed r.nodes (disjunction (p.number ∷ r.number ∷ [])))) q e in
        let p : Placed = t.middle in
        let u = then-is (placed p.nodes (atom (above d))) (λ r. placed r.nodes (disjunction (p.number ∷ r.number ∷ []))) q t.goes_on in
        let r : Placed = u.middle in
        let one = placed-made Good nodes table (atom (below d)) (good_below sorts d x y within) p t.begins in
        let two = placed-made Good p.nodes one.table (atom (above d)) (good_above sorts d x y within) r u.begins in
        either-made Good nodes table p r (test_of Less) (test_of Greater) one two q u.goes_on

  module _ (relation : Relation) (a b : LinearValue) (is_a : IsLinearFor sorts a) (is_b : IsLinearFor sorts b) (q : Placed) where
    abbrev pair_test : List ℤ → Bool
    pair_test values = relation_test relation (linear_value values a) (linear_value values b)

    related_by_made : (found : Result Difference DifferenceRefusal) → difference_of a b ≡ found → related_by relation nodes found ≡ Ok q → IsTested Good nodes q pair_test
    related_by_made (Err why) f e = absurd cc
    related_by_made (Ok d) f e =
        let ends = points-difference (IsIntPoint sorts) a b d tt is_a.points is_b.points f in
        record {
          meaning = test_of d ends.0 ends.1 (number-within a b d f) q relation;
          made = related_made d ends.0 ends.1 (number-within a b d f) q relation (placed_is (related nodes relation d) q e);
          same = λ values none. difference_says relation (linear_value values a) (linear_value values b) (value_at values d.x) (value_at values d.y) d.n (value-difference values a b d none f);
        }

    pub compared_made : compared relation nodes a b ≡ Ok q → IsTested Good nodes q pair_test
    compared_made e = related_by_made (difference_of a b) refl e
