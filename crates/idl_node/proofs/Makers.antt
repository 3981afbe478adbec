-- What each making of a formula says, and what it leaves of the table.
use Rattle.std.proofs.Common.{refl, sym, ap, subst, arith, ◌∙◌, ◌≡◌, ◌<◌, ℕ, List, [], ◌∷◌, ◌++◌, length, map, get_or, Bool, true, false, not, ◌&&◌, ◌||◌, Option, Some, ℤ, ◌-ℤ◌, neg_ℤ, pos}
use Rattle.std.specs.Prelude.{int_le, if◌then◌else◌}
use Rattle.std.specs.List.{AllByRecursion, list_all, list_any}
use Rattle.std.proofs.lemmas.Int.{ints}
use Rattle.std.proofs.lemmas.List.Folds.{list_any-append}
use Rattle.std.proofs.lemmas.Option.{slice_get-get_or}
use Rattle.stn_core.specs.declared.literal.Literal.{Literal}
use Rattle.stn_core.specs.Literal.{negation_of, value_at}
use Rattle.idl_node.specs.Nodes.{NodeValue, always, atom, denial, conjunction, disjunction, Placed, placed}
use Rattle.idl_node.specs.Making.{then, denied_by, denied, conjoined, disjoined, not_or, or_not, and_not, not_and, equal, different, chosen, exclusive, implied, constant, falsehood}
use Rattle.idl_node.specs.Meaning.{IsMade}
use Rattle.idl_node.specs.Tables.{IsDeniable, IsNodeOf, IsTableOf}
use Rattle.idl_node.specs.Truth.{literal_truth, node_truth, truth, equal_truth, different_truth, exclusive_truth, implied_truth}
use Rattle.idl_node.proofs.Growing.{AreThere, are_there_push, made-there, made-are_there, made-keeps, made-means, made-on, then-is, there-made, placed-made}
use Rattle.idl_node.proofs.Truths.{truth-node, list_any-agree, map-agree}

-- ---- truth values

not_not : (a : Bool) → a ≡ not (not a)
not_not true = refl
not_not false = refl

pub or_false : (a : Bool) → (a || false) ≡ a
or_false true = refl
or_false false = refl

pub and_true : (a : Bool) → (a && true) ≡ a
and_true true = refl
and_true false = refl

pub or_or : (a b c : Bool) → ((a || b) || c) ≡ (a || (b || c))
or_or true b c = refl
or_or false b c = refl

equal_is : (a b : Bool) → ((not a || b) && (a || not b)) ≡ equal_truth a b
equal_is true true = refl
equal_is true false = refl
equal_is false true = refl
equal_is false false = refl

different_is : (a b : Bool) → ((a && not b) || (not a && b)) ≡ different_truth a b
different_is true true = refl
different_is true false = refl
different_is false true = refl
different_is false false = refl

chosen_is : (c a b : Bool) → ((not c || a) && (c || b)) ≡ (if c then a else b)
chosen_is true a b = and_true a
chosen_is false a b = refl

-- x - y is at most c exactly where y - x isn't at most -c - 1
pub negated_difference : (x y c : ℤ) → int_le (y -ℤ x) (neg_ℤ c -ℤ pos 1) ≡ not (int_le (x -ℤ y) c)
negated_difference x y c = grind (arith, ints)

pub negated_truth : (values : List ℤ) (l : Literal) → literal_truth values (negation_of l) ≡ not (literal_truth values l)
negated_truth values l = negated_difference (value_at values l.x) (value_at values l.y) l.c

module _ (f : ℕ → Bool) (a b : ℕ) (x y : Bool) (is_x : f a ≡ x) (is_y : f b ≡ y) where
  list_any-two : list_any f (a ∷ b ∷ []) ≡ (x || y)
  list_any-two = ap (λ (u : Bool). u || (f b || false)) is_x ∙ ap (λ (u : Bool). x || u) (or_false (f b) ∙ is_y)

  list_all-two : list_all f (a ∷ b ∷ []) ≡ (x && y)
  list_all-two = ap (λ (u : Bool). u && (f b && true)) is_x ∙ ap (λ (u : Bool). x && u) (and_true (f b) ∙ is_y)

-- ---- one node

module _ (Good : Literal → Type 0) (nodes : List NodeValue) (table : IsTableOf Good nodes) where
  pub constant-made : (p : Placed) → constant nodes ≡ Some p → IsMade Good nodes p (λ values. true)
  constant-made p e = placed-made Good nodes table always tt p e

  pub conjoined-made : (members : List ℕ) (p : Placed) → AreThere nodes members → conjoined nodes members ≡ Some p → IsMade Good nodes p (λ values. list_all (truth nodes values) members)
  conjoined-made [] p h e = placed-made Good nodes table (conjunction []) tt p e
  conjoined-made (k ∷ []) p h e =
      made-means Good nodes p (λ values. truth nodes values k) (there-made Good nodes table k p h.0 e) (λ values. list_all (truth nodes values) (k ∷ [])) (λ values. sym (and_true (truth nodes values k)))
  conjoined-made (k ∷ j ∷ ms) p h e = placed-made Good nodes table (conjunction (k ∷ j ∷ ms)) h p e

  pub disjoined-made : (members : List ℕ) (p : Placed) → AreThere nodes members → disjoined nodes members ≡ Some p → IsMade Good nodes p (λ values. list_any (truth nodes values) members)
  disjoined-made [] p h e = placed-made Good nodes table (disjunction []) tt p e
  disjoined-made (k ∷ []) p h e =
      made-means Good nodes p (λ values. truth nodes values k) (there-made Good nodes table k p h.0 e) (λ values. list_any (truth nodes values) (k ∷ [])) (λ values. sym (or_false (truth nodes values k)))
  disjoined-made (k ∷ j ∷ ms) p h e = placed-made Good nodes table (disjunction (k ∷ j ∷ ms)) h p e

  -- `or` and `and` of two nodes whose meanings are known
  module _ (a b : ℕ) (in_a : a < length nodes) (in_b : b < length nodes) (x y : List ℤ → Bool) (is_x : (values : List ℤ) → truth nodes values a ≡ x values) (is_y : (values : List ℤ) → truth nodes values b ≡ y values) where
    pub or-made : (p : Placed) → placed nodes (disjunction (a ∷ b ∷ [])) ≡ Some p → IsMade Good nodes p (λ values. x values || y values)
    or-made p e =
        made-means Good nodes p (λ values. list_any (truth nodes values) (a ∷ b ∷ [])) (placed-made Good nodes table (disjunction (a ∷ b ∷ [])) (in_a, (in_b, tt)) p e) (λ values. x values || y values)
        (λ values. list_any-two (truth nodes values) a b (x values) (y values) (is_x values) (is_y values))

    pub and-made : (p : Placed) → placed nodes (conjunction (a ∷ b ∷ [])) ≡ Some p → IsMade Good nodes p (λ values. x values && y values)
    and-made p e =
        made-means Good nodes p (λ values. list_all (truth nodes values) (a ∷ b ∷ [])) (placed-made Good nodes table (conjunction (a ∷ b ∷ [])) (in_a, (in_b, tt)) p e) (λ values. x values && y values)
        (λ values. list_all-two (truth nodes values) a b (x values) (y values) (is_x values) (is_y values))

-- ---- `not`

module _ (Good : Literal → Type 0) (negates : (l : Literal) → Good l → Good (negation_of l)) (nodes : List NodeValue) (table : IsTableOf Good nodes) (k : ℕ) (in_k : k < length nodes) where
  truth_is : (values : List ℤ) (node : NodeValue) → get_or nodes k always ≡ node → node_truth values (truth nodes values) node ≡ truth nodes values k
  truth_is values node e = ap (node_truth values (truth nodes values)) (sym e) ∙ sym (truth-node Good nodes values table k in_k)

  here_is : (node : NodeValue) → get_or nodes k always ≡ node → IsNodeOf Good nodes k node
  here_is node e = subst (λ (n : NodeValue). IsNodeOf Good nodes k n) e (table k in_k)

  denial-made : (node : NodeValue) (p : Placed) → get_or nodes k always ≡ node → IsDeniable node → placed nodes (denial k) ≡ Some p → IsMade Good nodes p (λ values. not (truth nodes values k))
  denial-made node p e deniable f = placed-made Good nodes table (denial k) (in_k, subst IsDeniable (sym e) deniable) p f

  denied_by-made : (node : NodeValue) (p : Placed) → get_or nodes k always ≡ node → denied_by (Some node) nodes k ≡ Some p → IsMade Good nodes p (λ values. not (truth nodes values k))
  denied_by-made always p e f = denial-made always p e tt f
  denied_by-made (atom l) p e f =
      made-means Good nodes p (λ values. literal_truth values (negation_of l)) (placed-made Good nodes table (atom (negation_of l)) (negates l (here_is (atom l) e)) p f) (λ values. not (truth nodes values k))
      (λ values. negated_truth values l ∙ ap not (truth_is values (atom l) e))
  denied_by-made (denial m) p e f =
      let below = here_is (denial m) e in
      made-means Good nodes p (λ values. truth nodes values m) (there-made Good nodes table m p (omega (arith, below.0, in_k)) f) (λ values. not (truth nodes values k))
      (λ values. not_not (truth nodes values m) ∙ ap not (truth_is values (denial m) e))
  denied_by-made (conjunction ms) p e f = denial-made (conjunction ms) p e tt f
  denied_by-made (disjunction ms) p e f = denial-made (disjunction ms) p e tt f

  pub denied-made : (p : Placed) → denied nodes k ≡ Some p → IsMade Good nodes p (λ values. not (truth nodes values k))
  denied-made p e = denied_by-made (get_or nodes k always) p refl (ap (λ (found : Option NodeValue). denied_by found nodes k) (sym (slice_get-get_or nodes k always in_k)) ∙ e)

-- ---- two steps: a `not` beside a formula

module _ (Good : Literal → Type 0) (negates : (l : Literal) → Good l → Good (negation_of l)) (nodes : List NodeValue) (table : IsTableOf Good nodes) (a b : ℕ) (in_a : a < length nodes) (in_b : b < length nodes) where
  pub not_or-made : (q : Placed) → not_or nodes a b ≡ Some q → IsMade Good nodes q (λ values. not (truth nodes values a) || truth nodes values b)
  not_or-made q e =
      let t = then-is (denied nodes a) (λ p. placed p.nodes (disjunction (p.number ∷ b ∷ []))) q e in
      let p : Placed = t.middle in
      let one = denied-made Good negates nodes table a in_a p t.begins in
      let kept = made-keeps Good nodes p (λ values. not (truth nodes values a)) one table in
      let two = or-made Good p.nodes one.table p.number b one.in_range (made-there Good nodes p (λ values. not (truth nodes values a)) one b in_b) (λ values. not (truth nodes values a)) (λ values. truth nodes values b) one.says (λ values. kept values b in_b) q t.goes_on in
      made-on Good nodes p (λ values. not (truth nodes values a)) one q (λ values. not (truth nodes values a) || truth nodes values b) two

  pub or_not-made : (q : Placed) → or_not nodes a b ≡ Some q → IsMade Good nodes q (λ values. truth nodes values a || not (truth nodes values b))
  or_not-made q e =
      let t = then-is (denied nodes b) (λ p. placed p.nodes (disjunction (a ∷ p.number ∷ []))) q e in
      let p : Placed = t.middle in
      let one = denied-made Good negates nodes table b in_b p t.begins in
      let kept = made-keeps Good nodes p (λ values. not (truth nodes values b)) one table in
      let two = or-made Good p.nodes one.table a p.number (made-there Good nodes p (λ values. not (truth nodes values b)) one a in_a) one.in_range (λ values. truth nodes values a) (λ values. not (truth nodes values b)) (λ values. kept values a in_a) one.says q t.goes_on in
      made-on Good nodes p (λ values. not (truth nodes values b)) one q (λ values. truth nodes values a || not (truth nodes values b)) two

  pub and_not-made : (q : Placed) → and_not nodes a b ≡ Some q → IsMade Good nodes q (λ values. truth nodes values a && not (truth nodes values b))
  and_not-made q e =
      let t = then-is (denied nodes b) (λ p. placed p.nodes (conjunction (a ∷ p.number ∷ []))) q e in
      let p : Placed = t.middle in
      let one = denied-made Good negates nodes table b in_b p t.begins in
      let kept = made-keeps Good nodes p (λ values. not (truth nodes values b)) one table in
      let two = and-made Good p.nodes one.table a p.number (made-there Good nodes p (λ values. not (truth nodes values b)) one a in_a) one.in_range (λ values. truth nodes values a) (λ values. not (truth nodes values b)) (λ values. kept values a in_a) one.says q t.goes_on in
      made-on Good nodes p (λ values. not (truth nodes values b)) one q (λ values. truth nodes values a && not (truth nodes values b)) two

  pub not_and-made : (q : Placed) → not_and nodes a b ≡ Some q → IsMade Good nodes q (λ values. not (truth nodes values a) && truth nodes values b)
  not_and-made q e =
      let t = then-is (denied nodes a) (λ p. placed p.nodes (conjunction (p.number ∷ b ∷ []))) q e in
      let p : Placed = t.middle in
      let one = denied-made Good negates nodes table a in_a p t.begins in
      let kept = made-keeps Good nodes p (λ values. not (truth nodes values a)) one table in
      let two = and-made Good p.nodes one.table p.number b one.in_range (made-there Good nodes p (λ values. not (truth nodes values a)) one b in_b) (λ values. not (truth nodes values a)) (λ values. truth nodes values b) one.says (λ values. kept values b in_b) q t.goes_on in
      made-on Good nodes p (λ values. not (truth nodes values a)) one q (λ values. not (truth nodes values a) && truth nodes values b) two

-- ---- a third node over two

module _ (Good : Literal → Type 0) (nodes : List NodeValue) (table : IsTableOf Good nodes) (p q : Placed) (x y : List ℤ → Bool) (one : IsMade Good nodes p x) (two : IsMade Good p.nodes q y) where
  first_kept : (values : List ℤ) → truth q.nodes values p.number ≡ x values
  first_kept values = made-keeps Good p.nodes q y two one.table values p.number one.in_range ∙ one.says values

  first_there : p.number < length q.nodes
  first_there = made-there Good p.nodes q y two p.number one.in_range

  all_made : (r : Placed) (meaning : List ℤ → Bool) → IsMade Good q.nodes r meaning → IsMade Good nodes r meaning
  all_made r meaning three = made-on Good nodes p x one r meaning (made-on Good p.nodes q y two r meaning three)

  pub both-made : (r : Placed) → placed q.nodes (conjunction (p.number ∷ q.number ∷ [])) ≡ Some r → IsMade Good nodes r (λ values. x values && y values)
  both-made r e = all_made r (λ values. x values && y values) (and-made Good q.nodes two.table p.number q.number first_there two.in_range x y first_kept two.says r e)

  pub either-made : (r : Placed) → placed q.nodes (disjunction (p.number ∷ q.number ∷ [])) ≡ Some r → IsMade Good nodes r (λ values. x values || y values)
  either-made r e = all_made r (λ values. x values || y values) (or-made Good q.nodes two.table p.number q.number first_there two.in_range x y first_kept two.says r e)

-- a meaning in terms of two nodes that were there before
old_pair : (Good : Literal → Type 0) (nodes : List NodeValue) (table : IsTableOf Good nodes) (p : Placed) (x : List ℤ → Bool) (one : IsMade Good nodes p x) (a b : ℕ) (in_a : a < length nodes) (in_b : b < length nodes) (test : Bool → Bool → Bool) (values : List ℤ)
    → test (truth p.nodes values a) (truth p.nodes values b) ≡ test (truth nodes values a) (truth nodes values b)
old_pair Good nodes table p x one a b in_a in_b test values =
    let kept = made-keeps Good nodes p x one table values in
    ap (λ (u : Bool). test u (truth p.nodes values b)) (kept a in_a) ∙ ap (λ (u : Bool). test (truth nodes values a) u) (kept b in_b)

module _ (Good : Literal → Type 0) (negates : (l : Literal) → Good l → Good (negation_of l)) (nodes : List NodeValue) (table : IsTableOf Good nodes) (a b : ℕ) (in_a : a < length nodes) (in_b : b < length nodes) where
  pub equal-made : (r : Placed) → equal nodes a b ≡ Some r → IsMade Good nodes r (λ values. equal_truth (truth nodes values a) (truth nodes values b))
  equal-made r e =
      let x : List ℤ → Bool = λ values. not (truth nodes values a) || truth nodes values b in
      let y : List ℤ → Bool = λ values. truth nodes values a || not (truth nodes values b) in
      let t = then-is (not_or nodes a b) (λ p. (then) (or_not p.nodes a b) (λ q. placed q.nodes (conjunction (p.number ∷ q.number ∷ [])))) r e in
      let p : Placed = t.middle in
      let one = not_or-made Good negates nodes table a b in_a in_b p t.begins in
      let u = then-is (or_not p.nodes a b) (λ q. placed q.nodes (conjunction (p.number ∷ q.number ∷ []))) r t.goes_on in
      let q : Placed = u.middle in
      let there = made-there Good nodes p x one in
      let two = made-means Good p.nodes q _ (or_not-made Good negates p.nodes one.table a b (there a in_a) (there b in_b) q u.begins) y (old_pair Good nodes table p x one a b in_a in_b (λ c d. c || not d)) in
      made-means Good nodes r (λ values. x values && y values) (both-made Good nodes table p q x y one two r u.goes_on) (λ values. equal_truth (truth nodes values a) (truth nodes values b))
      (λ values. equal_is (truth nodes values a) (truth nodes values b))

  pub different-made : (r : Placed) → different nodes a b ≡ Some r → IsMade Good nodes r (λ values. different_truth (truth nodes values a) (truth nodes values b))
  different-made r e =
      let x : List ℤ → Bool = λ values. truth nodes values a && not (truth nodes values b) in
      let y : List ℤ → Bool = λ values. not (truth nodes values a) && truth nodes values b in
      let t = then-is (and_not nodes a b) (λ p. (then) (not_and p.nodes a b) (λ q. placed q.nodes (disjunction (p.number ∷ q.number ∷ [])))) r e in
      let p : Placed = t.middle in
      let one = and_not-made Good negates nodes table a b in_a in_b p t.begins in
      let u = then-is (not_and p.nodes a b) (λ q. placed q.nodes (disjunction (p.number ∷ q.number ∷ []))) r t.goes_on in
      let q : Placed = u.middle in
      let there = made-there Good nodes p x one in
      let two = made-means Good p.nodes q _ (not_and-made Good negates p.nodes one.table a b (there a in_a) (there b in_b) q u.begins) y (old_pair Good nodes table p x one a b in_a in_b (λ c d. not c && d)) in
      made-means Good nodes r (λ values. x values || y values) (either-made Good nodes table p q x y one two r u.goes_on) (λ values. different_truth (truth nodes values a) (truth nodes values b))
      (λ values. different_is (truth nodes values a) (truth nodes values b))

  -- where c is true, a, else b
  pub chosen-made : (c : ℕ) (r : Placed) → c < length nodes → chosen nodes c a b ≡ Some r → IsMade Good nodes r (λ values. if truth nodes values c then truth nodes values a else truth nodes values b)
  chosen-made c r in_c e =
      let x : List ℤ → Bool = λ values. not (truth nodes values c) || truth nodes values a in
      let y : List ℤ → Bool = λ values. truth nodes values c || truth nodes values b in
      let t = then-is (not_or nodes c a) (λ p. (then) (placed p.nodes (disjunction (c ∷ b ∷ []))) (λ q. placed q.nodes (conjunction (p.number ∷ q.number ∷ [])))) r e in
      let p : Placed = t.middle in
      let one = not_or-made Good negates nodes table c a in_c in_a p t.begins in
      let u = then-is (placed p.nodes (disjunction (c ∷ b ∷ []))) (λ q. placed q.nodes (conjunction (p.number ∷ q.number ∷ []))) r t.goes_on in
      let q : Placed = u.middle in
      let there = made-there Good nodes p x one in
      let kept = made-keeps Good nodes p x one table in
      let two = or-made Good p.nodes one.table c b (there c in_c) (there b in_b) (λ values. truth nodes values c) (λ values. truth nodes values b) (λ values. kept values c in_c) (λ values. kept values b in_b) q u.begins in
      made-means Good nodes r (λ values. x values && y values) (both-made Good nodes table p q x y one two r u.goes_on) (λ values. if truth nodes values c then truth nodes values a else truth nodes values b)
      (λ values. chosen_is (truth nodes values c) (truth nodes values a) (truth nodes values b))

-- ---- sequences

module _ (Good : Literal → Type 0) (negates : (l : Literal) → Good l → Good (negation_of l)) where
  pub falsehood-made : (nodes : List NodeValue) (p : Placed) → IsTableOf Good nodes → falsehood nodes ≡ Some p → IsMade Good nodes p (λ values. false)
  falsehood-made nodes q table e =
      let t = then-is (constant nodes) (λ p. denied p.nodes p.number) q e in
      let p : Placed = t.middle in
      let one = constant-made Good nodes table p t.begins in
      let two = denied-made Good negates p.nodes one.table p.number one.in_range q t.goes_on in
      made-on Good nodes p (λ values. true) one q (λ values. false) (made-means Good p.nodes q (λ values. not (truth p.nodes values p.number)) two (λ values. false) (λ values. ap not (one.says values)))

  pub exclusive-made : (nodes : List NodeValue) (a : ℕ) (bs : List ℕ) (q : Placed) → IsTableOf Good nodes → a < length nodes → AreThere nodes bs → exclusive nodes a bs ≡ Some q
      → IsMade Good nodes q (λ values. exclusive_truth (truth nodes values a) (map (truth nodes values) bs))
  exclusive-made nodes a [] q table in_a h e = there-made Good nodes table a q in_a e
  exclusive-made nodes a (b ∷ bs) q table in_a h e =
      let x : List ℤ → Bool = λ values. different_truth (truth nodes values a) (truth nodes values b) in
      let t = then-is (different nodes a b) (λ p. exclusive p.nodes p.number bs) q e in
      let p : Placed = t.middle in
      let one = different-made Good negates nodes table a b in_a h.0 p t.begins in
      let rest = exclusive-made p.nodes p.number bs q one.table one.in_range (made-are_there Good nodes p x one bs h.1) t.goes_on in
      let kept = made-keeps Good nodes p x one table in
      made-on Good nodes p x one q (λ values. exclusive_truth (x values) (map (truth nodes values) bs))
      (made-means Good p.nodes q (λ values. exclusive_truth (truth p.nodes values p.number) (map (truth p.nodes values) bs)) rest (λ values. exclusive_truth (x values) (map (truth nodes values) bs))
      (λ values. ap (λ (u : Bool). exclusive_truth u (map (truth p.nodes values) bs)) (one.says values)
      ∙ ap (λ (us : List Bool). exclusive_truth (x values) us) (map-agree (truth p.nodes values) (truth nodes values) (length nodes) (kept values) bs h.1)))

  implied_step : (f g : ℕ → Bool) (k m : ℕ) (x : Bool) (members rest : List ℕ) (same : (j : ℕ) → j < k → f j ≡ g j) → AllByRecursion (λ j. j < k) members → AllByRecursion (λ j. j < k) rest → f m ≡ x
      → (list_any f (members ++ m ∷ []) || implied_truth (map f rest)) ≡ (list_any g members || (x || implied_truth (map g rest)))
  implied_step f g k m x members rest same h i e =
      ap (λ (u : Bool). u || implied_truth (map f rest)) (list_any-append f members (m ∷ []) ∙ ap (λ (u : Bool). u || (f m || false)) (list_any-agree f g k same members h) ∙ ap (λ (u : Bool). list_any g members || u) (or_false (f m) ∙ e))
      ∙ ap (λ (us : List Bool). (list_any g members || x) || implied_truth us) (map-agree f g k same rest i)
      ∙ or_or (list_any g members) x (implied_truth (map g rest))

  pub implied-made : (nodes : List NodeValue) (members xs : List ℕ) (q : Placed) → IsTableOf Good nodes → AreThere nodes members → AreThere nodes xs → implied nodes members xs ≡ Some q
      → IsMade Good nodes q (λ values. list_any (truth nodes values) members || implied_truth (map (truth nodes values) xs))
  implied-made nodes members [] q table h i e =
      made-means Good nodes q (λ values. list_any (truth nodes values) members) (disjoined-made Good nodes table members q h e) (λ values. list_any (truth nodes values) members || false)
      (λ values. sym (or_false (list_any (truth nodes values) members)))
  implied-made nodes members (a ∷ []) q table h i e =
      made-means Good nodes q (λ values. list_any (truth nodes values) (members ++ a ∷ [])) (disjoined-made Good nodes table (members ++ a ∷ []) q (are_there_push nodes members a h i.0) e) (λ values. list_any (truth nodes values) members || truth nodes values a)
      (λ values. list_any-append (truth nodes values) members (a ∷ []) ∙ ap (λ (u : Bool). list_any (truth nodes values) members || u) (or_false (truth nodes values a)))
  implied-made nodes members (a ∷ b ∷ rest) q table h i e =
      let x : List ℤ → Bool = λ values. not (truth nodes values a) in
      let t = then-is (denied nodes a) (λ p. implied p.nodes (members ++ p.number ∷ []) (b ∷ rest)) q e in
      let p : Placed = t.middle in
      let one = denied-made Good negates nodes table a i.0 p t.begins in
      let longer = made-are_there Good nodes p x one in
      let later = implied-made p.nodes (members ++ p.number ∷ []) (b ∷ rest) q one.table (are_there_push p.nodes members p.number (longer members h) one.in_range) (longer (b ∷ rest) i.1) t.goes_on in
      let meaning : List ℤ → Bool = λ values. list_any (truth nodes values) members || (x values || implied_truth (map (truth nodes values) (b ∷ rest))) in
      made-on Good nodes p x one q meaning
      (made-means Good p.nodes q (λ values. list_any (truth p.nodes values) (members ++ p.number ∷ []) || implied_truth (map (truth p.nodes values) (b ∷ rest))) later meaning
      (λ values. implied_step (truth p.nodes values) (truth nodes values) (length nodes) p.number (x values) members (b ∷ rest) (made-keeps Good nodes p x one table values) h i.1 (one.says values)))
