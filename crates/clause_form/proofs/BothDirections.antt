-- Both directions, on values of all the points.
use Rattle.std.proofs.Common.{refl, sym, ap, subst, arith, inl, inr, ◌∙◌, ◌≡◌, ◌<◌, ◌≤◌, ℕ, zero, suc, List, [], ◌∷◌, length, Bool, true, false, not, ◌||◌, ◌&&◌, ℤ, eq-or-lt_of_le}
use Rattle.std.specs.List.{AllByRecursion, list_all, list_any}
use Rattle.stn_core.specs.declared.literal.Literal.{Literal}
use Rattle.stn_core.specs.Problem.{ProblemHolds}
use Rattle.idl_node.specs.Nodes.{NodeValue, always, atom, denial, conjunction, disjunction}
use Rattle.idl_node.specs.Tables.{IsNodeOf, IsTableOf}
use Rattle.idl_node.specs.Truth.{literal_truth, node_truth, truth}
use Rattle.std.proofs.lemmas.Bool.{and_parts}
use Rattle.clause_form.specs.Polarity.{is_among, node_at, Polarity, spread_asserted, spread_denied, spread, polarity_below, polarity_of, is_compound, inner_nodes}
use Rattle.clause_form.specs.ClauseForm.{stands, fresh_point, clauses_of}
use Rattle.clause_form.proofs.Among.{or_left, or_right, at_among, each_among, each_both}
use Rattle.clause_form.proofs.ClauseTruths.{truth_from_problem, problem_from_truth, same_is, is_same, asserted_truth, denied_truth, inner_truth, asserted_says, denied_says, inner_says, NodeHolds, below_holds, holds_below}
use Rattle.clause_form.proofs.Inner.{needs, inner_closed}
use Rattle.clause_form.proofs.Least.{split, in_table}
use Rattle.clause_form.proofs.Literals.{IsRight, MembersRight, AreRightBelow, members_right}
use Rattle.clause_form.proofs.Spreading.{AssertedSpreads, DeniedSpreads, closed, root_asserted}
use Rattle.clause_form.proofs.Truths.{node_is, truth-node}

-- ---- truth values

not_true : (b : Bool) → not b ≡ true → b ≡ false
not_true true e = absurd cc
not_true false e = refl

all_true : (f : ℕ → Bool) (ms : List ℕ) → AllByRecursion (λ m. f m ≡ true) ms → list_all f ms ≡ true
all_true f [] h = refl
all_true f (m ∷ ms) h = ap (λ (b : Bool). b && list_all f ms) h.0 ∙ all_true f ms h.1

none_true : (f : ℕ → Bool) (ms : List ℕ) → AllByRecursion (λ m. f m ≡ false) ms → list_any f ms ≡ false
none_true f [] h = refl
none_true f (m ∷ ms) h = ap (λ (b : Bool). b || list_any f ms) h.0 ∙ none_true f ms h.1

true_all : (f : ℕ → Bool) (ms : List ℕ) → list_all f ms ≡ true → AllByRecursion (λ m. f m ≡ true) ms
true_all f [] e = tt
true_all f (m ∷ ms) e = let h = and_parts (f m) (list_all f ms) e in (h.0, true_all f ms h.1)

or_false : (a b : Bool) → (a || b) ≡ false → (a ≡ false) × (b ≡ false)
or_false true b e = absurd cc
or_false false b e = (refl, e)

true_none : (f : ℕ → Bool) (ms : List ℕ) → list_any f ms ≡ false → AllByRecursion (λ m. f m ≡ false) ms
true_none f [] e = tt
true_none f (m ∷ ms) e = let h = or_false (f m) (list_any f ms) e in (h.0, true_none f ms h.1)

-- ---- which members' literals the clauses are made of

pub needs_asserted : (a d i : Bool) (node : NodeValue) → a ≡ true → needs true false false node ≡ true → needs a d i node ≡ true
needs_asserted a d i always h e = absurd cc
needs_asserted a d i (atom l) h e = absurd cc
needs_asserted a d i (denial m) h e = absurd cc
needs_asserted a d i (conjunction ms) h e = absurd cc
needs_asserted a d i (disjunction ms) h e = or_right i a h

pub needs_denied : (a d i : Bool) (node : NodeValue) → d ≡ true → needs false true false node ≡ true → needs a d i node ≡ true
needs_denied a d i always h e = absurd cc
needs_denied a d i (atom l) h e = absurd cc
needs_denied a d i (denial m) h e = absurd cc
needs_denied a d i (conjunction ms) h e = or_right i d h
needs_denied a d i (disjunction ms) h e = absurd cc

pub needs_inner : (a d i : Bool) (node : NodeValue) → i ≡ true → needs false false true node ≡ true → needs a d i node ≡ true
needs_inner a d i always h e = absurd cc
needs_inner a d i (atom l) h e = absurd cc
needs_inner a d i (denial m) h e = absurd cc
needs_inner a d i (conjunction ms) h e = or_left i d h
needs_inner a d i (disjunction ms) h e = or_left i a h

-- ---- an inner node's fresh point, by its clauses

inner_right : (values : List ℤ) (at : ℕ → Bool) (b : Bool) (node : NodeValue) → is_compound node ≡ true → inner_truth values at b node ≡ true → b ≡ node_truth values at node
inner_right values at b always c e = absurd cc
inner_right values at b (atom l) c e = absurd cc
inner_right values at b (denial m) c e = absurd cc
inner_right values at b (conjunction ms) c e = same_is b (list_all at ms) e
inner_right values at b (disjunction ms) c e = same_is b (list_any at ms) e

pub right_inner : (values : List ℤ) (at : ℕ → Bool) (b : Bool) (node : NodeValue) → (is_compound node ≡ true → b ≡ node_truth values at node) → inner_truth values at b node ≡ true
right_inner values at b always h = refl
right_inner values at b (atom l) h = refl
right_inner values at b (denial m) h = refl
right_inner values at b (conjunction ms) h = is_same b (list_all at ms) (h refl)
right_inner values at b (disjunction ms) h = is_same b (list_any at ms) (h refl)

-- ---- an asserted and a denied node, by its clauses

-- what is known of smaller nodes
record IsTrueBelow (at : ℕ → Bool) (p : Polarity) (k : ℕ) : Type 0 where
  pub asserted : (m : ℕ) → m < k → is_among m p.asserted ≡ true → at m ≡ true
  pub denied : (m : ℕ) → m < k → is_among m p.denied ≡ true → at m ≡ false

module _ (Good : Literal → Type 0) (nodes : List NodeValue) (values : List ℤ) (at : ℕ → Bool) (p : Polarity) (k : ℕ) (below : IsTrueBelow at p k) where
  asserted_true : (node : NodeValue) → IsNodeOf Good nodes k node → asserted_truth values at node ≡ true → AssertedSpreads node p → node_truth values at node ≡ true
  asserted_true always is e s = refl
  asserted_true (atom l) is e s = e
  asserted_true (denial m) is e s = ap not (below.denied m is.0 s)
  asserted_true (conjunction ms) is e s = all_true at ms (each_both (λ m. m < k) (λ m. is_among m p.asserted ≡ true) (λ m. at m ≡ true) ms (λ m lt h. below.asserted m lt h) is s)
  asserted_true (disjunction ms) is e s = e

  denied_false : (node : NodeValue) → IsNodeOf Good nodes k node → denied_truth values at node ≡ true → DeniedSpreads node p → node_truth values at node ≡ false
  denied_false always is e s = absurd cc
  denied_false (atom l) is e s = not_true (literal_truth values l) e
  denied_false (denial m) is e s = ap not (below.asserted m is.0 s)
  denied_false (conjunction ms) is e s = not_true (list_all at ms) e
  denied_false (disjunction ms) is e s = none_true at ms (each_both (λ m. m < k) (λ m. is_among m p.denied ≡ true) (λ m. at m ≡ false) ms (λ m lt h. below.denied m lt h) is s)

pub true_asserted : (values : List ℤ) (at : ℕ → Bool) (node : NodeValue) → node_truth values at node ≡ true → asserted_truth values at node ≡ true
true_asserted values at always e = refl
true_asserted values at (atom l) e = e
true_asserted values at (denial m) e = refl
true_asserted values at (conjunction ms) e = refl
true_asserted values at (disjunction ms) e = e

pub false_denied : (values : List ℤ) (at : ℕ → Bool) (node : NodeValue) → node_truth values at node ≡ false → denied_truth values at node ≡ true
false_denied values at always e = absurd cc
false_denied values at (atom l) e = ap not e
false_denied values at (denial m) e = refl
false_denied values at (conjunction ms) e = ap not e
false_denied values at (disjunction ms) e = refl

-- ---- truth spreads as the lists do

pub record IsTrueOf (at : ℕ → Bool) (p : Polarity) : Type 0 where
  pub asserted : (k : ℕ) → is_among k p.asserted ≡ true → at k ≡ true
  pub denied : (k : ℕ) → is_among k p.denied ≡ true → at k ≡ false

module _ (values : List ℤ) (at : ℕ → Bool) where
  true_by : (x : Bool) (b : Bool) → x ≡ not b → x ≡ true → b ≡ false
  true_by x b e f = not_true b (sym e ∙ f)

  not_false : (b : Bool) → not b ≡ false → b ≡ true
  not_false true e = refl
  not_false false e = absurd cc

  spreads_asserted : (a : Bool) (j : ℕ) (node : NodeValue) (p : Polarity) → at j ≡ node_truth values at node → (a ≡ true → at j ≡ true) → IsTrueOf at p → IsTrueOf at (spread_asserted a node p)
  spreads_asserted false j node p e f h = h
  spreads_asserted true j always p e f h = h
  spreads_asserted true j (atom l) p e f h = h
  spreads_asserted true j (denial m) p e f h = record {
    asserted = h.asserted;
    denied = λ k g. elim (split k (m ∷ []) p.denied g) [ inl i ↦ at_among (λ n. at n ≡ false) k (m ∷ []) (not_true (at m) (sym e ∙ f refl), tt) i | inr i ↦ h.denied k i ];
  }
  spreads_asserted true j (conjunction ms) p e f h = record {
    asserted = λ k g. elim (split k ms p.asserted g) [ inl i ↦ at_among (λ n. at n ≡ true) k ms (true_all at ms (sym e ∙ f refl)) i | inr i ↦ h.asserted k i ];
    denied = h.denied;
  }
  spreads_asserted true j (disjunction ms) p e f h = h

  spreads_denied : (d : Bool) (j : ℕ) (node : NodeValue) (p : Polarity) → at j ≡ node_truth values at node → (d ≡ true → at j ≡ false) → IsTrueOf at p → IsTrueOf at (spread_denied d node p)
  spreads_denied false j node p e f h = h
  spreads_denied true j always p e f h = h
  spreads_denied true j (atom l) p e f h = h
  spreads_denied true j (denial m) p e f h = record {
    asserted = λ k g. elim (split k (m ∷ []) p.asserted g) [ inl i ↦ at_among (λ n. at n ≡ true) k (m ∷ []) (not_false (at m) (sym e ∙ f refl), tt) i | inr i ↦ h.asserted k i ];
    denied = h.denied;
  }
  spreads_denied true j (conjunction ms) p e f h = h
  spreads_denied true j (disjunction ms) p e f h = record {
    asserted = h.asserted;
    denied = λ k g. elim (split k ms p.denied g) [ inl i ↦ at_among (λ n. at n ≡ false) k ms (true_none at ms (sym e ∙ f refl)) i | inr i ↦ h.denied k i ];
  }

  pub spreads_below : (nodes : List NodeValue) → ((k : ℕ) → at k ≡ node_truth values at (node_at nodes k)) → (n : ℕ) (p : Polarity) → IsTrueOf at p → IsTrueOf at (polarity_below n nodes p)
  spreads_below nodes says zero p h = h
  spreads_below nodes says (suc n) p h =
      let node : NodeValue = node_at nodes n in
      let q : Polarity = spread_asserted (is_among n p.asserted) node p in
      let first : IsTrueOf at q = spreads_asserted (is_among n p.asserted) n node p (says n) (h.asserted n) h in
      spreads_below nodes says n (spread n node p) (spreads_denied (is_among n p.denied) n node q (says n) (h.denied n) first)

-- ---- both directions

module _ (Good : Literal → Type 0) (nodes : List NodeValue) (table : IsTableOf Good nodes) (roots : List ℕ) (points : ℕ) (values : List ℤ) where
  pub members_needed : (k : ℕ) → k < length nodes → AreRightBelow Good nodes table points (inner_nodes nodes (polarity_of nodes roots)) values k
      → needs (is_among k (polarity_of nodes roots).asserted) (is_among k (polarity_of nodes roots).denied) (is_among k (inner_nodes nodes (polarity_of nodes roots))) (node_at nodes k) ≡ true
      → MembersRight points nodes (inner_nodes nodes (polarity_of nodes roots)) values (node_at nodes k)
  members_needed k lt below e =
      let p : Polarity = polarity_of nodes roots in
      members_right Good nodes table points (inner_nodes nodes p) values k (node_at nodes k) (node_is Good nodes table k) (inner_closed nodes Good table p k lt e) below

  compound_in_table : (k : ℕ) → is_compound (node_at nodes k) ≡ true → k < length nodes
  compound_in_table k c = in_table nodes roots Good table k (node_at nodes k) refl (λ e. let f : is_compound (node_at nodes k) ≡ false = ap is_compound e in absurd cc)

  module _ (below : AreRightBelow Good nodes table points (inner_nodes nodes (polarity_of nodes roots)) values (length nodes)) where
    each_right : (k : ℕ) → k < length nodes → AreRightBelow Good nodes table points (inner_nodes nodes (polarity_of nodes roots)) values k
    each_right k lt j less c i = below j (omega arith) c i

    true_holds : (k : ℕ) → k < length nodes → IsTrueOf (truth nodes values) (polarity_of nodes roots) → NodeHolds points nodes (polarity_of nodes roots) (inner_nodes nodes (polarity_of nodes roots)) values k
    true_holds k lt says =
        let p : Polarity = polarity_of nodes roots in
        let inner : List ℕ = inner_nodes nodes p in
        let node : NodeValue = node_at nodes k in
        let a : Bool = is_among k p.asserted in
        let d : Bool = is_among k p.denied in
        let i : Bool = is_among k inner in
        let at : ℕ → Bool = truth nodes values in
        let is : truth nodes values k ≡ node_truth values at node = truth-node Good nodes table values k in
        record {
          asserted = λ h. asserted_says points nodes inner values k node (λ e. members_needed k lt (each_right k lt) (needs_asserted a d i node h e)) ∙ true_asserted values at node (sym is ∙ says.asserted k h);
          denied = λ h. denied_says points nodes inner values k node (λ e. members_needed k lt (each_right k lt) (needs_denied a d i node h e)) ∙ false_denied values at node (sym is ∙ says.denied k h);
          inner_too = λ h. inner_says points nodes inner values (fresh_point points inner k) node (λ e. members_needed k lt (each_right k lt) (needs_inner a d i node h e))
              ∙ right_inner values at (literal_truth values (stands (fresh_point points inner k))) node (λ c. below k lt c h ∙ is);
        }

    roots_spread : AllByRecursion (λ r. truth nodes values r ≡ true) roots → IsTrueOf (truth nodes values) (polarity_of nodes roots)
    unfolding polarity_of
    roots_spread h =
        spreads_below values (truth nodes values) nodes (λ k. truth-node Good nodes table values k) (length nodes) (record { asserted = roots; denied = [] })
        (record { asserted = λ k e. at_among (λ r. truth nodes values r ≡ true) k roots h e; denied = λ k e. absurd cc })

    -- the problem holds where the roots are true and the fresh points say so of the inner nodes
    pub problem_holds : AllByRecursion (λ r. truth nodes values r ≡ true) roots → ProblemHolds values (clauses_of points nodes roots)
    unfolding clauses_of
    problem_holds h =
        let p : Polarity = polarity_of nodes roots in
        problem_from_truth values _ (holds_below points nodes p (inner_nodes nodes p) values (length nodes) (λ k lt. true_holds k lt (roots_spread h)))

  module _ (holds : ProblemHolds values (clauses_of points nodes roots)) where
    node_holds : (k : ℕ) → k < length nodes → NodeHolds points nodes (polarity_of nodes roots) (inner_nodes nodes (polarity_of nodes roots)) values k
    unfolding clauses_of
    node_holds k lt =
        let p : Polarity = polarity_of nodes roots in
        below_holds points nodes p (inner_nodes nodes p) values (length nodes) k (truth_from_problem values (clauses_of points nodes roots) holds) lt

    right_here : (k : ℕ) → AreRightBelow Good nodes table points (inner_nodes nodes (polarity_of nodes roots)) values k → is_compound (node_at nodes k) ≡ true → is_among k (inner_nodes nodes (polarity_of nodes roots)) ≡ true
        → IsRight points nodes (inner_nodes nodes (polarity_of nodes roots)) values k
    right_here k below c h =
        let p : Polarity = polarity_of nodes roots in
        let inner : List ℕ = inner_nodes nodes p in
        let node : NodeValue = node_at nodes k in
        let lt : k < length nodes = compound_in_table k c in
        let says = inner_says points nodes inner values (fresh_point points inner k) node (λ e. members_needed k lt below (needs_inner (is_among k p.asserted) (is_among k p.denied) (is_among k inner) node h e)) in
        inner_right values (truth nodes values) (literal_truth values (stands (fresh_point points inner k))) node c (sym says ∙ (node_holds k lt).inner_too h) ∙ sym (truth-node Good nodes table values k)

    right_below : (n : ℕ) → AreRightBelow Good nodes table points (inner_nodes nodes (polarity_of nodes roots)) values n
    right_below zero j lt c h = absurd (omega arith)
    right_below (suc n) j lt c h =
        let le : j ≤ n = omega arith in
        elim (eq-or-lt_of_le le) [
          | inl e ↦ right_here j (subst (λ (i : ℕ). AreRightBelow Good nodes table points (inner_nodes nodes (polarity_of nodes roots)) values i) (sym e) (right_below n)) c h
          | inr less ↦ right_below n j less c h
        ]

    true_here : (k : ℕ) → k < length nodes → IsTrueBelow (truth nodes values) (polarity_of nodes roots) k → is_among k (polarity_of nodes roots).asserted ≡ true → truth nodes values k ≡ true
    true_here k lt below h =
        let p : Polarity = polarity_of nodes roots in
        let inner : List ℕ = inner_nodes nodes p in
        let node : NodeValue = node_at nodes k in
        let says = asserted_says points nodes inner values k node (λ e. members_needed k lt (right_below k) (needs_asserted (is_among k p.asserted) (is_among k p.denied) (is_among k inner) node h e)) in
        truth-node Good nodes table values k
        ∙ asserted_true Good nodes values (truth nodes values) p k below node (node_is Good nodes table k) (sym says ∙ (node_holds k lt).asserted h) ((closed Good nodes table roots k lt).asserted h)

    false_here : (k : ℕ) → k < length nodes → IsTrueBelow (truth nodes values) (polarity_of nodes roots) k → is_among k (polarity_of nodes roots).denied ≡ true → truth nodes values k ≡ false
    false_here k lt below h =
        let p : Polarity = polarity_of nodes roots in
        let inner : List ℕ = inner_nodes nodes p in
        let node : NodeValue = node_at nodes k in
        let says = denied_says points nodes inner values k node (λ e. members_needed k lt (right_below k) (needs_denied (is_among k p.asserted) (is_among k p.denied) (is_among k inner) node h e)) in
        truth-node Good nodes table values k
        ∙ denied_false Good nodes values (truth nodes values) p k below node (node_is Good nodes table k) (sym says ∙ (node_holds k lt).denied h) ((closed Good nodes table roots k lt).denied h)

    true_below : (n : ℕ) → n ≤ length nodes → IsTrueBelow (truth nodes values) (polarity_of nodes roots) n
    true_below zero le = record { asserted = λ m lt h. absurd (omega arith); denied = λ m lt h. absurd (omega arith) }
    true_below (suc n) le =
        let rest = true_below n (omega arith) in
        record {
          asserted = λ m lt h. (let most : m ≤ n = omega arith in elim (eq-or-lt_of_le most) [
            | inl e ↦ true_here m (omega arith) (subst (λ (i : ℕ). IsTrueBelow (truth nodes values) (polarity_of nodes roots) i) (sym e) rest) h
            | inr less ↦ rest.asserted m less h
          ]);
          denied = λ m lt h. (let most : m ≤ n = omega arith in elim (eq-or-lt_of_le most) [
            | inl e ↦ false_here m (omega arith) (subst (λ (i : ℕ). IsTrueBelow (truth nodes values) (polarity_of nodes roots) i) (sym e) rest) h
            | inr less ↦ rest.denied m less h
          ]);
        }

    -- the roots are true where the problem holds
    pub roots_true : AllByRecursion (λ r. r < length nodes) roots → AllByRecursion (λ r. truth nodes values r ≡ true) roots
    roots_true in_range =
        each_both (λ r. r < length nodes) (λ r. is_among r roots ≡ true) (λ r. truth nodes values r ≡ true) roots
        (λ r lt h. (true_below (length nodes) (omega arith)).asserted r lt (root_asserted nodes roots r h)) in_range (each_among (λ r. is_among r roots ≡ true) roots (λ k h. h))
