-- The objective of a script whose bounds are near 0 isn't too large.
use Rattle.std.proofs.Common.{◌≡◌, arith, ap, ℕ, zero, suc, ◌+◌, ◌*◌, ◌≤◌, Bool, true, false, List, [], ◌∷◌, ◌++◌, length, map, nat_le, Some, None, ℤ, pos, negsuc, neg_ℤ, ◌≤ℤ◌, unsigned_abs}
use Rattle.std.specs.Prelude.{if◌then◌else◌}
use Rattle.std.specs.List.{AllByRecursion}
use Rattle.std.proofs.Math.Nat.{max-le, mul-le-mul_right}
use Rattle.std.proofs.lemmas.Bool.Decides.{nat_tests}
use Rattle.std.proofs.lemmas.Int.{ints}
use Rattle.stn_core.specs.declared.literal.Literal.{Literal}
use Rattle.stn_core.specs.Literal.{negation_of}
use Rattle.best_values.specs.Widths.{clause_width, width_of, objective_limit}
use Rattle.idl_node.specs.Nodes.{NodeValue, always, atom, denial, conjunction, disjunction}
use Rattle.idl_term.specs.Contexts.{Context}
use Rattle.clause_form.specs.Polarity.{Polarity, is_among, node_at, polarity_of, inner_nodes}
use Rattle.clause_form.specs.ClauseForm.{stands, fails, fresh_point, body_literal, node_literal, literal_of, denied_literal, literals_of, denied_literals, asserted_clauses, denied_clauses, inner_clauses, when, node_clauses, clauses_below, clauses_of}
use Rattle.clause_form.proofs.Points.{points_few}
use Rattle.smt_answer.specs.Kinds.{kind_of}
use Rattle.smt_script.specs.declared.error.Refusal.TheVariants.{ObjectiveTooLarge}
use Rattle.script_walk.specs.Questions.{points_of, problem_of, refusal_by}
use Rattle.script_law.proofs.Lists.{all_append}
use Rattle.script_law.proofs.Near.{IsNear, IsNearNode, AreNear}

-- ---- literals

abbrev IsNearClause : List Literal → Type 0
IsNearClause clause = AllByRecursion IsNear clause

abbrev AreNearClauses : List (List Literal) → Type 0
AreNearClauses clauses = AllByRecursion IsNearClause clauses

negation_near : (l : Literal) → IsNear l → IsNear (negation_of l)
negation_near l h = (omega (arith, ints, h.0, h.1), omega (arith, ints, h.0, h.1))

stands_near : (p : ℕ) → IsNear (stands p)
stands_near p = (omega (arith, ints), omega (arith, ints))

fails_near : (p : ℕ) → IsNear (fails p)
fails_near p = (omega (arith, ints), omega (arith, ints))

near_at : (nodes : List NodeValue) → AreNear nodes → (k : ℕ) → IsNearNode (node_at nodes k)
near_at [] h zero = tt
near_at [] h (suc k) = tt
near_at (n ∷ nodes) h zero = h.0
near_at (n ∷ nodes) h (suc k) = near_at nodes h.1 k

-- ---- clauses

when_near : (b : Bool) (clauses : List (List Literal)) → AreNearClauses clauses → AreNearClauses (when b clauses)
when_near true clauses h = h
when_near false clauses h = tt

module _ (points : ℕ) (nodes : List NodeValue) (near : AreNear nodes) (inner : List ℕ) where
  body_near : (k : ℕ) (node : NodeValue) → IsNearNode node → IsNear (body_literal points inner k node)
  body_near k always h = stands_near 0
  body_near k (atom l) h = h
  body_near k (denial m) h = stands_near (fresh_point points inner k)
  body_near k (conjunction ms) h = stands_near (fresh_point points inner k)
  body_near k (disjunction ms) h = stands_near (fresh_point points inner k)

  node_near : (k : ℕ) (node : NodeValue) → IsNearNode node → IsNear (node_literal points nodes inner k node)
  node_near k always h = body_near k always h
  node_near k (atom l) h = body_near k (atom l) h
  node_near k (denial m) h = negation_near (body_literal points inner m (node_at nodes m)) (body_near m (node_at nodes m) (near_at nodes near m))
  node_near k (conjunction ms) h = body_near k (conjunction ms) h
  node_near k (disjunction ms) h = body_near k (disjunction ms) h

  literal_near : (k : ℕ) → IsNear (literal_of points nodes inner k)
  literal_near k = node_near k (node_at nodes k) (near_at nodes near k)

  denied_near : (k : ℕ) → IsNear (denied_literal points nodes inner k)
  denied_near k = negation_near (literal_of points nodes inner k) (literal_near k)

  literals_near : (ms : List ℕ) → IsNearClause (literals_of points nodes inner ms)
  literals_near [] = tt
  literals_near (m ∷ ms) = (literal_near m, literals_near ms)

  denied_literals_near : (ms : List ℕ) → IsNearClause (denied_literals points nodes inner ms)
  denied_literals_near [] = tt
  denied_literals_near (m ∷ ms) = (denied_near m, denied_literals_near ms)

  with_fails : (f : ℕ) (ms : List ℕ) → AreNearClauses (map (λ m. fails f ∷ literal_of points nodes inner m ∷ []) ms)
  with_fails f [] = tt
  with_fails f (m ∷ ms) = ((fails_near f, (literal_near m, tt)), with_fails f ms)

  with_stands : (f : ℕ) (ms : List ℕ) → AreNearClauses (map (λ m. stands f ∷ denied_literal points nodes inner m ∷ []) ms)
  with_stands f [] = tt
  with_stands f (m ∷ ms) = ((stands_near f, (denied_near m, tt)), with_stands f ms)

  asserted_near : (k : ℕ) (node : NodeValue) → IsNearNode node → AreNearClauses (asserted_clauses points nodes inner k node)
  asserted_near k always h = ((stands_near 0, tt), tt)
  asserted_near k (atom l) h = ((h, tt), tt)
  asserted_near k (denial m) h = tt
  asserted_near k (conjunction ms) h = tt
  asserted_near k (disjunction ms) h = (literals_near ms, tt)

  denied_clauses_near : (k : ℕ) (node : NodeValue) → IsNearNode node → AreNearClauses (denied_clauses points nodes inner k node)
  denied_clauses_near k always h = ((negation_near (stands 0) (stands_near 0), tt), tt)
  denied_clauses_near k (atom l) h = ((negation_near l h, tt), tt)
  denied_clauses_near k (denial m) h = tt
  denied_clauses_near k (conjunction ms) h = (denied_literals_near ms, tt)
  denied_clauses_near k (disjunction ms) h = tt

  inner_near : (f : ℕ) (node : NodeValue) → AreNearClauses (inner_clauses points nodes inner f node)
  inner_near f always = tt
  inner_near f (atom l) = tt
  inner_near f (denial m) = tt
  inner_near f (conjunction ms) =
      all_append IsNearClause (map (λ m. fails f ∷ literal_of points nodes inner m ∷ []) ms) ((stands f ∷ denied_literals points nodes inner ms) ∷ [])
      (with_fails f ms) ((stands_near f, denied_literals_near ms), tt)
  inner_near f (disjunction ms) = ((fails_near f, literals_near ms), with_stands f ms)

  module _ (p : Polarity) where
    node_clauses_near : (k : ℕ) → AreNearClauses (node_clauses points nodes p inner k)
    node_clauses_near k =
        let asserted = asserted_clauses points nodes inner k (node_at nodes k) in
        let denied = denied_clauses points nodes inner k (node_at nodes k) in
        let within = inner_clauses points nodes inner (fresh_point points inner k) (node_at nodes k) in
        all_append IsNearClause (when (is_among k p.asserted) asserted) (when (is_among k p.denied) denied ++ when (is_among k inner) within)
        (when_near (is_among k p.asserted) asserted (asserted_near k (node_at nodes k) (near_at nodes near k)))
        (all_append IsNearClause (when (is_among k p.denied) denied) (when (is_among k inner) within)
        (when_near (is_among k p.denied) denied (denied_clauses_near k (node_at nodes k) (near_at nodes near k)))
        (when_near (is_among k inner) within (inner_near (fresh_point points inner k) (node_at nodes k))))

    below_near : (n : ℕ) → AreNearClauses (clauses_below points nodes p inner n)
    below_near zero = tt
    below_near (suc n) = all_append IsNearClause (clauses_below points nodes p inner n) (node_clauses points nodes p inner n) (below_near n) (node_clauses_near n)

clauses_near : (points : ℕ) (nodes : List NodeValue) (roots : List ℕ) → AreNear nodes → AreNearClauses (clauses_of points nodes roots)
unfolding clauses_of
clauses_near points nodes roots near =
    below_near points nodes near (inner_nodes nodes (polarity_of nodes roots)) (polarity_of nodes roots) (length nodes)

-- ---- how wide they are

abs_near : (z : ℤ) → neg_ℤ (pos 17179869185) ≤ℤ z → z ≤ℤ pos 17179869184 → unsigned_abs z ≤ 17179869185
abs_near (pos n) low high = omega (arith, ints, low, high)
abs_near (negsuc n) low high = omega (arith, ints, low, high)

clause_near : (ls : List Literal) → IsNearClause ls → clause_width ls ≤ 17179869185
clause_near [] h = omega arith
clause_near (l ∷ ls) h = max-le (abs_near l.c h.0.0 h.0.1) (clause_near ls h.1)

width_near : (clauses : List (List Literal)) → AreNearClauses clauses → width_of clauses ≤ 17179869185
width_near [] h = omega arith
width_near (clause ∷ clauses) h = max-le (clause_near clause h.0) (width_near clauses h.1)

-- ---- the objective

within : (points width : ℕ) → points ≤ 2097152 → width ≤ 17179869185 → points * (width + 1) ≤ objective_limit
within points width few low = omega (arith, mul-le-mul_right (width + 1) few, low)

free : (points width : ℕ) → points ≤ 2097152 → width ≤ 17179869185 → refusal_by points width ≡ None
free points width few low =
    let fits : points * (width + 1) ≤ objective_limit = within points width few low in
    let test : nat_le (points * (width + 1)) objective_limit ≡ true = grind (arith, nat_tests, fits) in
    ap (λ (b : Bool). if b then None else Some (kind_of ObjectiveTooLarge)) test

pub objective_fits : (c : Context) → AreNear c.nodes → length c.declared ≤ 65536 → length c.nodes ≤ 1048576 → refusal_by (points_of c) (width_of (problem_of c)) ≡ None
objective_fits c near names few =
    let points : points_of c ≤ 2097152 = omega (arith, points_few (length c.declared + 1) c.nodes c.roots, names, few) in
    free (points_of c) (width_of (problem_of c)) points (width_near (problem_of c) (clauses_near (length c.declared + 1) c.nodes c.roots near))
