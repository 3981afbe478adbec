-- What the terms of a script are made into.
use Rattle.std.proofs.Common.{◌≡◌, ◌∙◌, refl, ap, arith, ℕ, ◌+◌, ◌<◌, ◌≤◌, Bool, true, false, ◌&&◌, ◌==◌, nat_lt, nat_le, List, [], ◌∷◌, ◌++◌, length, length-append, Option, Some, None, Result, Ok, Err, ℤ, pos, neg_ℤ, ◌+ℤ◌, ◌≤ℤ◌}
use Rattle.std.specs.Prelude.{codes, if◌then◌else◌, int_le}
use Rattle.std.specs.Str.{bytes_eq}
use Rattle.std.proofs.lemmas.Int.{ints}
use Rattle.std.proofs.lemmas.Bool.Decides.{nat_tests}
use Rattle.smt_lex.specs.Numbers.{value_of}
use Rattle.smt_lex.specs.declared.token.TokenKind.TheVariants.{Numeral}
use Rattle.smt_sexpr.specs.Tree.{Sexpr, Items, leaf, list, none, more}
use Rattle.smt_sexpr.specs.Shapes.{symbol, form}
use Rattle.idl_linear.specs.declared.difference.Difference.{Difference}
use Rattle.idl_linear.specs.Limits.{constant_limit, number_limit}
use Rattle.idl_linear.specs.Linear.{LinearValue, sum_of, collected, less_others, is_limited, is_within, number_alone, point_alone}
use Rattle.idl_linear.specs.Differences.{difference_of, ends_of}
use Rattle.idl_node.specs.Limits.{nodes_limit}
use Rattle.idl_node.specs.Making.{disjoined}
use Rattle.idl_node.specs.Nodes.{NodeValue, atom, disjunction, Placed, placed, placed_by, number_in}
use Rattle.idl_node.specs.declared.sort.Sort.TheVariants as sort
use Rattle.idl_cases.specs.Guarded.{plain}
use Rattle.idl_scope.specs.Scopes.{LoweredTerm, formula, linear_term, Scope, found, declared_at}
use Rattle.idl_apply.specs.Applied.{Made, applied, as_number, a_formula}
use Rattle.idl_apply.specs.Comparing.{follows, or_too_large, compared, related_by, each_case_compared, each_compared, at_most, at_least}
use Rattle.idl_term.specs.code.Walks.{application_made, let_made}
use Rattle.idl_apply.specs.declared.error.TermRefusal.{TermRefusal}
use Rattle.idl_apply.specs.declared.error.TermRefusal.TheVariants.{WrongCount, BoundTooLarge}
use Rattle.idl_term.specs.Lowered.{Head, operator, binder, refused, head_of, count_of, lowered, lowered_list, lowered_each, lowered_leaf, MadeEach, put_first}
use Rattle.idl_apply.specs.Operators.{connective_of, order_of, sign_of, equality_of, operator_of, is_reserved, takes_count}
use Rattle.idl_apply.specs.declared.comparing.Relation.{Relation}
use Rattle.idl_apply.specs.declared.comparing.Relation.TheVariants as relation
use Rattle.idl_apply.specs.declared.operator.Connective.TheVariants as connective
use Rattle.idl_apply.specs.declared.operator.Operator.{Operator}
use Rattle.idl_apply.specs.declared.operator.Operator.TheVariants as op
use Rattle.idl_apply.specs.declared.operator.Order.TheVariants as order
use Rattle.idl_apply.specs.declared.operator.Sign.TheVariants as sign
use Rattle.script_law.proofs.Near.{IsNear, IsNearNode, AreNear, near_push}

-- ---- how terms are made

abbrev pub binary : List ℕ → Sexpr → Sexpr → Sexpr
binary op x y = form op (x ∷ y ∷ [])

abbrev pub digits : List ℕ → Sexpr
digits ds = leaf Numeral ds

abbrev pub negated : List ℕ → Sexpr
negated ds = form (codes "-") (digits ds ∷ [])

-- ---- numbers

abbrev pub Near : ℤ → Type 0
Near n = (neg_ℤ (pos 4294967296) ≤ℤ n) × (n ≤ℤ pos 4294967296)

int_le_true : (m n : ℤ) → m ≤ℤ n → int_le m n ≡ true
int_le_true m n h = grind (arith, ints, h)

within : (limit : ℕ) (n : ℤ) → neg_ℤ (pos limit) ≤ℤ n → n ≤ℤ pos limit → is_within limit n ≡ true
within limit n low high = rw (int_le_true (neg_ℤ (pos limit)) n low, int_le_true n (pos limit) high) refl

pub near_constant : (n : ℤ) → Near n → is_within constant_limit n ≡ true
near_constant n h = within constant_limit n (omega (arith, ints, h.0)) (omega (arith, ints, h.1))

near_number : (a c : ℤ) → Near a → Near c → is_within number_limit (neg_ℤ (a +ℤ (neg_ℤ c +ℤ pos 0))) ≡ true
near_number a c h k =
    within number_limit (neg_ℤ (a +ℤ (neg_ℤ c +ℤ pos 0))) (omega (arith, ints, h.0, h.1, k.0, k.1)) (omega (arith, ints, h.0, h.1, k.0, k.1))

-- ---- a place in the table

-- a table with at most so many nodes more
record IsPlaced (nodes : List NodeValue) (node : NodeValue) : Type 0 where
  p : Placed
  is : placed nodes node ≡ Some p
  few : length p.nodes ≤ length nodes + 1
  near : AreNear nodes → IsNearNode node → AreNear p.nodes

placed_with : (nodes : List NodeValue) (node : NodeValue) → length nodes < nodes_limit → (o : Option ℕ) → number_in nodes node ≡ o → IsPlaced nodes node
placed_with nodes node room (Some k) e = record { p = record { nodes = nodes; number = k }; is = ap (λ (o : Option ℕ). placed_by o nodes node) e; few = omega arith; near = λ h k. h }
placed_with nodes node room None e =
    let there : nat_lt (length nodes) nodes_limit ≡ true = grind (arith, nat_tests, room) in
    record {
      p = record { nodes = nodes ++ node ∷ []; number = length nodes };
      is = ap (λ (o : Option ℕ). placed_by o nodes node) e
          ∙ ap (λ (b : Bool). if b then Some (record { nodes = nodes ++ node ∷ []; number = length nodes }) else None) there;
      few = omega (arith, length-append nodes (node ∷ []));
      near = near_push nodes node;
    }

placed_fits : (nodes : List NodeValue) (node : NodeValue) → length nodes < nodes_limit → IsPlaced nodes node
placed_fits nodes node room = placed_with nodes node room (number_in nodes node) refl

-- ---- linear terms

-- one that is compared with a number: its ends, and its constant
pub record IsShort (l : LinearValue) : Type 0 where
  pub ends : ℕ × ℕ
  pub collects : ends_of (collected (l.summands ++ [])) ≡ Some ends
  pub near : Near l.constant

pub short_difference : (l : LinearValue) (c : ℤ) → (h : IsShort l) → Near c
    → difference_of l (number_alone c) ≡ Ok (record { x = h.ends.0; y = h.ends.1; n = neg_ℤ (l.constant +ℤ (neg_ℤ c +ℤ pos 0)) })
unfolding difference_of sum_of
short_difference l c h near = rw (h.collects, near_number l.constant c h.near near) refl

pub point_short : (k : ℕ) → IsShort (point_alone k)
point_short k = record { ends = (k, 0); collects = refl; near = (omega (arith, ints), omega (arith, ints)) }

-- the difference of two points
abbrev pub apart : ℕ → ℕ → LinearValue
apart p q = less_others (point_alone p ∷ point_alone q ∷ [])

record IsApart (p q : ℕ) : Type 0 where
  short : IsShort (apart p q)
  limited : is_limited (apart p q) ≡ true

apart_below : (p q : ℕ) → nat_lt p q ≡ true → IsApart p q
unfolding sum_of
apart_below p q below = record {
  short = record { ends = (p, q); collects = rw (below, below) refl; near = (omega (arith, ints), omega (arith, ints)) };
  limited = rw below refl;
}

apart_same : (p q : ℕ) → nat_lt p q ≡ false → (p == q) ≡ true → IsApart p q
unfolding sum_of
apart_same p q low same = record {
  short = record { ends = (0, 0); collects = rw (low, same) refl; near = (omega (arith, ints), omega (arith, ints)) };
  limited = rw (low, same) refl;
}

apart_above : (p q : ℕ) → nat_lt p q ≡ false → (p == q) ≡ false → nat_lt q p ≡ true → IsApart p q
unfolding sum_of
apart_above p q low other above = record {
  short = record { ends = (p, q); collects = rw (low, other, above) refl; near = (omega (arith, ints), omega (arith, ints)) };
  limited = rw (low, other) refl;
}

apart_by : (p q : ℕ) (less same : Bool) → nat_lt p q ≡ less → (p == q) ≡ same → IsApart p q
apart_by p q true same l s = apart_below p q l
apart_by p q false true l s = apart_same p q l s
apart_by p q false false l s = apart_above p q l s (grind (arith, nat_tests, l, s))

points_apart : (p q : ℕ) → IsApart p q
points_apart p q = apart_by p q (nat_lt p q) (p == q) refl refl

-- ---- terms

made : List NodeValue → LoweredTerm → Made
made nodes is = record { nodes = nodes; is = is }

abbrev pub IsNumber : Scope → List NodeValue → Sexpr → LinearValue → Type 0
IsNumber scope nodes x l = lowered scope nodes x ≡ Ok (record { nodes = nodes; is = linear_term l })

pub record IsPoint (scope : Scope) (x : List ℕ) (place : ℕ) : Type 0 where
  pub not_true : bytes_eq x (codes "true") ≡ false
  pub not_false : bytes_eq x (codes "false") ≡ false
  pub free : is_reserved x ≡ false
  pub there : found scope x ≡ declared_at place sort.Int

module _ (scope : Scope) (nodes : List NodeValue) where
  pub point_number : (x : List ℕ) (place : ℕ) → IsPoint scope x place → IsNumber scope nodes (symbol x) (point_alone (place + 1))
  unfolding lowered lowered_leaf
  point_number x place h = rw (h.not_true, h.not_false, h.free, h.there) refl

  pub digits_number : (ds : List ℕ) (n : ℕ) → value_of ds ≡ n → n ≤ 4294967296 → IsNumber scope nodes (digits ds) (number_alone (pos n))
  unfolding lowered lowered_leaf
  digits_number ds n e small =
      let fits : nat_le n constant_limit ≡ true = grind (arith, nat_tests, small) in
      rw (e, fits) refl

-- ---- operators

-- what is made where the head is known
abbrev headed : Scope → List NodeValue → Items → Head → Result Made TermRefusal
headed scope nodes arguments (operator o) = application_made o scope nodes arguments
headed scope nodes arguments binder = let_made scope nodes arguments
headed scope nodes arguments (refused why) = Err why

by_head : (scope : Scope) (nodes : List NodeValue) (x : Sexpr) (arguments : Items) → lowered scope nodes (list (more x arguments)) ≡ headed scope nodes arguments (head_of scope x)
unfolding lowered lowered_list
by_head scope nodes x arguments = refl

each_one : (scope : Scope) (nodes : List NodeValue) (x : Sexpr) (mx : Made) → lowered scope nodes x ≡ Ok mx → lowered_each scope nodes (more x none) ≡ Ok (record { nodes = mx.nodes; are = mx.is ∷ [] })
unfolding lowered_each
each_one scope nodes x mx ex = ap (λ (r : Result Made TermRefusal). follows r (λ m. follows (lowered_each scope m.nodes none) (put_first m))) ex

each_two : (scope : Scope) (nodes : List NodeValue) (x y : Sexpr) (mx my : Made) → lowered scope nodes x ≡ Ok mx → lowered scope mx.nodes y ≡ Ok my
    → lowered_each scope nodes (more x (more y none)) ≡ Ok (record { nodes = my.nodes; are = mx.is ∷ my.is ∷ [] })
unfolding lowered_each
each_two scope nodes x y mx my ex ey =
    ap (λ (r : Result Made TermRefusal). follows r (λ m. follows (lowered_each scope m.nodes (more y none)) (put_first m))) ex
    ∙ ap (λ (r : Result MadeEach TermRefusal). follows r (put_first mx)) (each_one scope mx.nodes y my ey)

applied_to : (o : Operator) (scope : Scope) (nodes : List NodeValue) (arguments : Items) (each : MadeEach) → takes_count o (count_of arguments) ≡ true → lowered_each scope nodes arguments ≡ Ok each
    → application_made o scope nodes arguments ≡ applied o each.nodes each.are
applied_to o scope nodes arguments each t e =
    ap (λ (b : Bool). if b then follows (lowered_each scope nodes arguments) (λ made. applied o made.nodes made.are) else Err WrongCount) t
    ∙ ap (λ (r : Result MadeEach TermRefusal). follows r (λ made. applied o made.nodes made.are)) e

module _ (scope : Scope) (nodes : List NodeValue) where
  -- an operator with two arguments, and with one
  pub binary_made : (name : List ℕ) (o : Operator) (x y : Sexpr) (mx my : Made) → head_of scope (symbol name) ≡ operator o → takes_count o 2 ≡ true → lowered scope nodes x ≡ Ok mx → lowered scope mx.nodes y ≡ Ok my
      → lowered scope nodes (binary name x y) ≡ applied o my.nodes (mx.is ∷ my.is ∷ [])
  binary_made name o x y mx my h t ex ey =
      by_head scope nodes (symbol name) (more x (more y none)) ∙ ap (headed scope nodes (more x (more y none))) h
      ∙ applied_to o scope nodes (more x (more y none)) (record { nodes = my.nodes; are = mx.is ∷ my.is ∷ [] }) t (each_two scope nodes x y mx my ex ey)

  unary_made : (name : List ℕ) (o : Operator) (x : Sexpr) (mx : Made) → head_of scope (symbol name) ≡ operator o → takes_count o 1 ≡ true → lowered scope nodes x ≡ Ok mx
      → lowered scope nodes (form name (x ∷ [])) ≡ applied o mx.nodes (mx.is ∷ [])
  unary_made name o x mx h t ex =
      by_head scope nodes (symbol name) (more x none) ∙ ap (headed scope nodes (more x none)) h
      ∙ applied_to o scope nodes (more x none) (record { nodes = mx.nodes; are = mx.is ∷ [] }) t (each_one scope nodes x mx ex)

module _ (scope : Scope) where
  minus_head : head_of scope (symbol (codes "-")) ≡ operator (op.Sum sign.Minus)
  unfolding head_of operator_of connective_of order_of sign_of equality_of
  minus_head = refl

  pub at_most_head : head_of scope (symbol (codes "<=")) ≡ operator (op.Order order.AtMost)
  unfolding head_of operator_of connective_of order_of sign_of equality_of
  at_most_head = refl

  pub at_least_head : head_of scope (symbol (codes ">=")) ≡ operator (op.Order order.AtLeast)
  unfolding head_of operator_of connective_of order_of sign_of equality_of
  at_least_head = refl

  pub or_head : head_of scope (symbol (codes "or")) ≡ operator (op.Connective connective.Or)
  unfolding head_of operator_of connective_of order_of sign_of equality_of
  or_head = refl

-- ---- sums

pub summed_number : (nodes : List NodeValue) (l : LinearValue) → is_limited l ≡ true → as_number nodes (plain l) ≡ Ok (record { nodes = nodes; is = linear_term l })
summed_number nodes l e = ap (λ (b : Bool). if (b && true) then Ok (record { nodes = nodes; is = linear_term l }) else Err BoundTooLarge) e

applied_minus : (nodes : List NodeValue) (a b : LinearValue) → applied (op.Sum sign.Minus) nodes (linear_term a ∷ linear_term b ∷ []) ≡ as_number nodes (plain (less_others (a ∷ b ∷ [])))
unfolding applied
applied_minus nodes a b = refl

applied_negative : (nodes : List NodeValue) (a : LinearValue) → applied (op.Sum sign.Minus) nodes (linear_term a ∷ []) ≡ as_number nodes (plain (less_others (a ∷ [])))
unfolding applied
applied_negative nodes a = refl

negative_is : (n : ℕ) → less_others (number_alone (pos n) ∷ []) ≡ number_alone (neg_ℤ (pos n) +ℤ pos 0)
unfolding sum_of
negative_is n = refl

number_limited : (c : ℤ) → Near c → is_limited (number_alone c) ≡ true
number_limited c near = near_constant c near

pub negative_near : (n : ℕ) → n ≤ 1000000 → Near (neg_ℤ (pos n) +ℤ pos 0)
negative_near n small = (omega (arith, ints, small), omega (arith, ints, small))

module _ (scope : Scope) (nodes : List NodeValue) where
  made_number : LinearValue → Made
  made_number l = record { nodes = nodes; is = linear_term l }

  minus_number : (x y : List ℕ) (p q : ℕ) → IsPoint scope x p → IsPoint scope y q → IsNumber scope nodes (binary (codes "-") (symbol x) (symbol y)) (apart (p + 1) (q + 1))
  minus_number x y p q hx hy =
      binary_made scope nodes (codes "-") (op.Sum sign.Minus) (symbol x) (symbol y) (record { nodes = nodes; is = linear_term (point_alone (p + 1)) }) (record { nodes = nodes; is = linear_term (point_alone (q + 1)) })
      (minus_head scope) refl (point_number scope nodes x p hx) (point_number scope nodes y q hy)
      ∙ applied_minus nodes (point_alone (p + 1)) (point_alone (q + 1)) ∙ summed_number nodes (apart (p + 1) (q + 1)) (points_apart (p + 1) (q + 1)).limited

  pub less_number : (ds : List ℕ) (n : ℕ) → value_of ds ≡ n → n ≤ 1000000 → IsNumber scope nodes (negated ds) (number_alone (neg_ℤ (pos n) +ℤ pos 0))
  less_number ds n e small =
      unary_made scope nodes (codes "-") (op.Sum sign.Minus) (digits ds) (record { nodes = nodes; is = linear_term (number_alone (pos n)) })
      (minus_head scope) refl (digits_number scope nodes ds n e (omega arith))
      ∙ applied_negative nodes (number_alone (pos n)) ∙ ap (λ (l : LinearValue). as_number nodes (plain l)) (negative_is n) ∙ summed_number nodes (number_alone (neg_ℤ (pos n) +ℤ pos 0)) (number_limited _ (negative_near n small))

-- ---- comparisons

-- a formula is made, with at most so many nodes more, and bounds near 0
pub record IsFormula (scope : Scope) (nodes : List NodeValue) (x : Sexpr) (more : ℕ) : Type 0 where
  pub after : List NodeValue
  pub root : ℕ
  pub is : lowered scope nodes x ≡ Ok (record { nodes = after; is = formula root })
  pub few : length after ≤ length nodes + more
  pub near : AreNear nodes → AreNear after

-- the pair in the one case of terms without conditions
abbrev one_case : Relation → Result Placed TermRefusal → Result Placed TermRefusal
one_case r pair = follows (follows pair (λ p. or_too_large (disjoined p.nodes (p.number ∷ [])))) (λ q. each_case_compared r q.nodes (q.number ∷ []) [])

module _ (nodes : List NodeValue) (l : LinearValue) (c : ℤ) (short : IsShort l) (near : Near c) where
  abbrev bound : Difference
  bound = record { x = short.ends.0; y = short.ends.1; n = neg_ℤ (l.constant +ℤ (neg_ℤ c +ℤ pos 0)) }

  most_near : IsNear (at_most bound)
  most_near = (omega (arith, ints, short.near.0, short.near.1, near.0, near.1), omega (arith, ints, short.near.0, short.near.1, near.0, near.1))

  least_near : IsNear (at_least bound)
  least_near = (omega (arith, ints, short.near.0, short.near.1, near.0, near.1), omega (arith, ints, short.near.0, short.near.1, near.0, near.1))

  most_compared : (h : IsPlaced nodes (atom (at_most bound))) → compared relation.AtMost nodes l (number_alone c) ≡ Ok h.p
  most_compared h = ap (related_by relation.AtMost nodes) (short_difference l c short near) ∙ ap or_too_large h.is

  least_compared : (h : IsPlaced nodes (atom (at_least bound))) → compared relation.AtLeast nodes l (number_alone c) ≡ Ok h.p
  least_compared h = ap (related_by relation.AtLeast nodes) (short_difference l c short near) ∙ ap or_too_large h.is

  applied_most : (p : Placed) → compared relation.AtMost nodes l (number_alone c) ≡ Ok p
      → applied (op.Order order.AtMost) nodes (linear_term l ∷ linear_term (number_alone c) ∷ []) ≡ Ok (record { nodes = p.nodes; is = formula p.number })
  unfolding applied
  applied_most p e = ap (λ (r : Result Placed TermRefusal). follows (follows (one_case relation.AtMost r) (λ q. each_compared relation.AtMost q.nodes (q.number ∷ []) [])) a_formula) e

  applied_least : (p : Placed) → compared relation.AtLeast nodes l (number_alone c) ≡ Ok p
      → applied (op.Order order.AtLeast) nodes (linear_term l ∷ linear_term (number_alone c) ∷ []) ≡ Ok (record { nodes = p.nodes; is = formula p.number })
  unfolding applied
  applied_least p e = ap (λ (r : Result Placed TermRefusal). follows (follows (one_case relation.AtLeast r) (λ q. each_compared relation.AtLeast q.nodes (q.number ∷ []) [])) a_formula) e

module _ (scope : Scope) (nodes : List NodeValue) (room : length nodes < nodes_limit) (x y : Sexpr) (l : LinearValue) (c : ℤ) (short : IsShort l) (near : Near c) (hx : IsNumber scope nodes x l) (hy : IsNumber scope nodes y (number_alone c)) where
  pub most_formula : IsFormula scope nodes (binary (codes "<=") x y) 1
  most_formula =
      let h = placed_fits nodes (atom (at_most (bound nodes l c short near))) room in
      record {
        after = h.p.nodes;
        root = h.p.number;
        is = binary_made scope nodes (codes "<=") (op.Order order.AtMost) x y (record { nodes = nodes; is = linear_term l }) (record { nodes = nodes; is = linear_term (number_alone c) }) (at_most_head scope) refl hx hy
            ∙ applied_most nodes l c short near h.p (most_compared nodes l c short near h);
        few = h.few;
        near = λ all. h.near all (most_near nodes l c short near);
      }

  least_formula : IsFormula scope nodes (binary (codes ">=") x y) 1
  least_formula =
      let h = placed_fits nodes (atom (at_least (bound nodes l c short near))) room in
      record {
        after = h.p.nodes;
        root = h.p.number;
        is = binary_made scope nodes (codes ">=") (op.Order order.AtLeast) x y (record { nodes = nodes; is = linear_term l }) (record { nodes = nodes; is = linear_term (number_alone c) }) (at_least_head scope) refl hx hy
            ∙ applied_least nodes l c short near h.p (least_compared nodes l c short near h);
        few = h.few;
        near = λ all. h.near all (least_near nodes l c short near);
      }

pub near_pos : (n : ℕ) → n ≤ 4294967296 → Near (pos n)
near_pos n small = (omega (arith, ints, small), omega (arith, ints, small))

module _ (scope : Scope) (nodes : List NodeValue) where
  pub starts_formula : (x ds : List ℕ) (p : ℕ) → length nodes < nodes_limit → IsPoint scope x p → value_of ds ≡ 0 → IsFormula scope nodes (binary (codes ">=") (symbol x) (digits ds)) 1
  starts_formula x ds p room hx e =
      least_formula scope nodes room (symbol x) (digits ds) (point_alone (p + 1)) (pos 0) (point_short (p + 1)) (near_pos 0 (omega arith)) (point_number scope nodes x p hx) (digits_number scope nodes ds 0 e (omega arith))

  pub follows_formula : (x y ds : List ℕ) (p q n : ℕ) → length nodes < nodes_limit → IsPoint scope x p → IsPoint scope y q → value_of ds ≡ n → n ≤ 1000000
      → IsFormula scope nodes (binary (codes ">=") (binary (codes "-") (symbol x) (symbol y)) (digits ds)) 1
  follows_formula x y ds p q n room hx hy e small =
      least_formula scope nodes room (binary (codes "-") (symbol x) (symbol y)) (digits ds) (apart (p + 1) (q + 1)) (pos n) (points_apart (p + 1) (q + 1)).short (near_pos n (omega arith)) (minus_number scope nodes x y p q hx hy)
      (digits_number scope nodes ds n e (omega arith))

  -- a difference of two points is at most a number
  pub before_formula : (x y : List ℕ) (z : Sexpr) (p q : ℕ) (c : ℤ) → length nodes < nodes_limit → IsPoint scope x p → IsPoint scope y q → Near c → IsNumber scope nodes z (number_alone c)
      → IsFormula scope nodes (binary (codes "<=") (binary (codes "-") (symbol x) (symbol y)) z) 1
  before_formula x y z p q c room hx hy near hz =
      most_formula scope nodes room (binary (codes "-") (symbol x) (symbol y)) z (apart (p + 1) (q + 1)) c (points_apart (p + 1) (q + 1)).short near (minus_number scope nodes x y p q hx hy) hz

applied_or : (nodes : List NodeValue) (a b : ℕ) (h : IsPlaced nodes (disjunction (a ∷ b ∷ []))) → applied (op.Connective connective.Or) nodes (formula a ∷ formula b ∷ []) ≡ Ok (record { nodes = h.p.nodes; is = formula h.p.number })
unfolding applied
applied_or nodes a b h = ap (λ (o : Option Placed). follows (or_too_large o) a_formula) h.is

pub or_formula : (scope : Scope) (nodes : List NodeValue) (x y : Sexpr) → length nodes + 3 ≤ nodes_limit → (hx : IsFormula scope nodes x 1) → IsFormula scope hx.after y 1 → IsFormula scope nodes (binary (codes "or") x y) 3
or_formula scope nodes x y room hx hy =
    let h = placed_fits hy.after (disjunction (hx.root ∷ hy.root ∷ [])) (omega (arith, room, hx.few, hy.few)) in
    record {
      after = h.p.nodes;
      root = h.p.number;
      is = binary_made scope nodes (codes "or") (op.Connective connective.Or) x y (record { nodes = hx.after; is = formula hx.root }) (record { nodes = hy.after; is = formula hy.root }) (or_head scope) refl hx.is hy.is
          ∙ applied_or hy.after hx.root hy.root h;
      few = omega (arith, h.few, hx.few, hy.few);
      near = λ all. h.near (hy.near (hx.near all)) tt;
    }
