-- What each kind of clause says, where the members' literals say what the members do.
use Rattle.std.proofs.Common.{refl, sym, ap, subst, arith, inl, inr, ◌∙◌, ◌≡◌, ◌<◌, ◌≤◌, ℕ, zero, suc, List, [], ◌∷◌, ◌++◌, map, Bool, true, false, not, ◌||◌, ◌&&◌, ℤ, eq-or-lt_of_le}
use Rattle.std.specs.List.{AllByRecursion, list_all, list_any}
use Rattle.std.proofs.lemmas.List.Elements.{All-from_recursion, recursion_from_All}
use Rattle.std.proofs.lemmas.List.Folds.{list_all-append, Any-from_list_any, list_any-from_Any}
use Rattle.stn_core.specs.declared.literal.Literal.{Literal}
use Rattle.stn_core.specs.Literal.{negation_of}
use Rattle.stn_core.specs.Problem.{ClauseHolds, ProblemHolds}
use Rattle.idl_node.specs.Nodes.{NodeValue, always, atom, denial, conjunction, disjunction}
use Rattle.idl_node.specs.Truth.{literal_truth, truth}
use Rattle.std.proofs.lemmas.Bool.{and_parts}
use Rattle.idl_node.proofs.Makers.{negated_truth}
use Rattle.clause_form.specs.Polarity.{Polarity, is_among, node_at}
use Rattle.clause_form.specs.ClauseForm.{stands, fails, fresh_point, literal_of, denied_literal, literals_of, denied_literals, asserted_clauses, denied_clauses, inner_clauses, when, node_clauses, clauses_below}
use Rattle.clause_form.proofs.Inner.{needs}
use Rattle.clause_form.proofs.Literals.{holds_from_truth, truth_from_holds, zero_stands, fails_truth, IsLiteralRight, MembersRight}

-- ---- clauses as truth values

abbrev pub clause_truth : List ℤ → List Literal → Bool
clause_truth values clause = list_any (literal_truth values) clause

abbrev pub problem_truth : List ℤ → List (List Literal) → Bool
problem_truth values clauses = list_all (clause_truth values) clauses

clause_is : (values : List ℤ) (clause : List Literal) → ClauseHolds values clause → clause_truth values clause ≡ true
clause_is values clause h = list_any-from_Any (literal_truth values) clause (h.1.0, h.0, h.1.1, h.1.2, truth_from_holds values h.0 h.2)

pub clause_from : (values : List ℤ) (clause : List Literal) → clause_truth values clause ≡ true → ClauseHolds values clause
clause_from values clause e =
    let a = Any-from_list_any (literal_truth values) clause e in
    (a.1, (a.0, a.2, a.3), holds_from_truth values a.1 a.4)

pub both_and : (a b : Bool) → a ≡ true → b ≡ true → (a && b) ≡ true
both_and true b e f = f
both_and false b e f = absurd cc

truth_is : (values : List ℤ) (clauses : List (List Literal)) → AllByRecursion (ClauseHolds values) clauses → problem_truth values clauses ≡ true
truth_is values [] h = refl
truth_is values (c ∷ cs) h = both_and (clause_truth values c) (problem_truth values cs) (clause_is values c h.0) (truth_is values cs h.1)

truth_gives : (values : List ℤ) (clauses : List (List Literal)) → problem_truth values clauses ≡ true → AllByRecursion (ClauseHolds values) clauses
truth_gives values [] e = tt
truth_gives values (c ∷ cs) e =
    let h = and_parts (clause_truth values c) (problem_truth values cs) e in
    (clause_from values c h.0, truth_gives values cs h.1)

pub truth_from_problem : (values : List ℤ) (clauses : List (List Literal)) → ProblemHolds values clauses → problem_truth values clauses ≡ true
truth_from_problem values clauses h = truth_is values clauses (recursion_from_All (ClauseHolds values) clauses h)

pub problem_from_truth : (values : List ℤ) (clauses : List (List Literal)) → problem_truth values clauses ≡ true → ProblemHolds values clauses
problem_from_truth values clauses e = All-from_recursion (ClauseHolds values) clauses (truth_gives values clauses e)

-- ---- truth values

abbrev pub same : Bool → Bool → Bool
same true b = b
same false b = not b

pub same_is : (a b : Bool) → same a b ≡ true → a ≡ b
same_is true b e = sym e
same_is false true e = absurd cc
same_is false false e = refl

pub is_same : (a b : Bool) → a ≡ b → same a b ≡ true
is_same true b e = sym e
is_same false true e = absurd cc
is_same false false e = refl

-- ---- what the clauses of a node say of the truth of its members

abbrev pub asserted_truth : List ℤ → (ℕ → Bool) → NodeValue → Bool
asserted_truth values at always = true
asserted_truth values at (atom l) = literal_truth values l
asserted_truth values at (denial m) = true
asserted_truth values at (conjunction ms) = true
asserted_truth values at (disjunction ms) = list_any at ms

abbrev pub denied_truth : List ℤ → (ℕ → Bool) → NodeValue → Bool
denied_truth values at always = false
denied_truth values at (atom l) = not (literal_truth values l)
denied_truth values at (denial m) = true
denied_truth values at (conjunction ms) = not (list_all at ms)
denied_truth values at (disjunction ms) = true

abbrev pub inner_truth : List ℤ → (ℕ → Bool) → Bool → NodeValue → Bool
inner_truth values at b (conjunction ms) = same b (list_all at ms)
inner_truth values at b (disjunction ms) = same b (list_any at ms)
inner_truth values at b _ = true

or_true : (a : Bool) → true ≡ (a || true)
or_true true = refl
or_true false = refl

one_literal : (a : Bool) → ((a || false) && true) ≡ a
one_literal true = refl
one_literal false = refl

one_clause : (a : Bool) → (a && true) ≡ a
one_clause true = refl
one_clause false = refl

both_same : (b x : Bool) → ((not b || x) && ((b || not x) && true)) ≡ same b x
both_same true true = refl
both_same true false = refl
both_same false true = refl
both_same false false = refl

either_same : (b x : Bool) → ((not b || x) && (b || not x)) ≡ same b x
either_same true true = refl
either_same true false = refl
either_same false true = refl
either_same false false = refl

and_step : (x y r : Bool) → ((x || (y || false)) && (x || r)) ≡ (x || (y && r))
and_step true y r = refl
and_step false true r = refl
and_step false false r = refl

or_step : (x y r : Bool) → ((x || (not y || false)) && (x || not r)) ≡ (x || not (y || r))
or_step true y r = refl
or_step false true r = refl
or_step false false true = refl
or_step false false false = refl

not_and_step : (y r : Bool) → (not y || not r) ≡ not (y && r)
not_and_step true r = refl
not_and_step false r = refl

three : (op : Bool → Bool → Bool → Bool) (a b c x y z : Bool) → a ≡ x → b ≡ y → c ≡ z → op a b c ≡ op x y z
three op a b c x y z e f g = ap (λ (u : Bool). op u b c) e ∙ ap (λ (u : Bool). op x u c) f ∙ ap (λ (u : Bool). op x y u) g

-- ---- lists of members

module _ (points : ℕ) (nodes : List NodeValue) (inner : List ℕ) (values : List ℤ) where
  is_denied : (m : ℕ) → IsLiteralRight points nodes inner values m → literal_truth values (denied_literal points nodes inner m) ≡ not (truth nodes values m)
  is_denied m h = negated_truth values (literal_of points nodes inner m) ∙ ap not h

  any_literal : (ms : List ℕ) → AllByRecursion (IsLiteralRight points nodes inner values) ms → clause_truth values (literals_of points nodes inner ms) ≡ list_any (truth nodes values) ms
  any_literal [] h = refl
  any_literal (m ∷ ms) h = ap (λ (b : Bool). b || clause_truth values (literals_of points nodes inner ms)) h.0 ∙ ap (λ (b : Bool). truth nodes values m || b) (any_literal ms h.1)

  any_denied : (ms : List ℕ) → AllByRecursion (IsLiteralRight points nodes inner values) ms → clause_truth values (denied_literals points nodes inner ms) ≡ not (list_all (truth nodes values) ms)
  any_denied [] h = refl
  any_denied (m ∷ ms) h =
      ap (λ (b : Bool). b || clause_truth values (denied_literals points nodes inner ms)) (is_denied m h.0)
      ∙ ap (λ (b : Bool). not (truth nodes values m) || b) (any_denied ms h.1)
      ∙ not_and_step (truth nodes values m) (list_all (truth nodes values) ms)

  all_implied : (f : ℕ) (ms : List ℕ) → AllByRecursion (IsLiteralRight points nodes inner values) ms
      → problem_truth values (map (λ m. fails f ∷ literal_of points nodes inner m ∷ []) ms) ≡ (not (literal_truth values (stands f)) || list_all (truth nodes values) ms)
  all_implied f [] h = or_true (not (literal_truth values (stands f)))
  all_implied f (m ∷ ms) h =
      three (λ a b c. (a || (b || false)) && c) _ _ _ _ _ _ (fails_truth values f) h.0 (all_implied f ms h.1)
      ∙ and_step (not (literal_truth values (stands f))) (truth nodes values m) (list_all (truth nodes values) ms)

  all_denied : (f : ℕ) (ms : List ℕ) → AllByRecursion (IsLiteralRight points nodes inner values) ms
      → problem_truth values (map (λ m. stands f ∷ denied_literal points nodes inner m ∷ []) ms) ≡ (literal_truth values (stands f) || not (list_any (truth nodes values) ms))
  all_denied f [] h = or_true (literal_truth values (stands f))
  all_denied f (m ∷ ms) h =
      three (λ a b c. (a || (b || false)) && c) _ _ _ (literal_truth values (stands f)) _ _ refl (is_denied m h.0) (all_denied f ms h.1)
      ∙ or_step (literal_truth values (stands f)) (truth nodes values m) (list_any (truth nodes values) ms)

  -- ---- the clauses of a node

  pub asserted_says : (k : ℕ) (node : NodeValue) → (needs true false false node ≡ true → MembersRight points nodes inner values node)
      → problem_truth values (asserted_clauses points nodes inner k node) ≡ asserted_truth values (truth nodes values) node
  asserted_says k always right = one_literal (literal_truth values (stands 0)) ∙ zero_stands values
  asserted_says k (atom l) right = one_literal (literal_truth values l)
  asserted_says k (denial m) right = refl
  asserted_says k (conjunction ms) right = refl
  asserted_says k (disjunction ms) right = one_clause (clause_truth values (literals_of points nodes inner ms)) ∙ any_literal ms (right refl)

  pub denied_says : (k : ℕ) (node : NodeValue) → (needs false true false node ≡ true → MembersRight points nodes inner values node)
      → problem_truth values (denied_clauses points nodes inner k node) ≡ denied_truth values (truth nodes values) node
  denied_says k always right = one_literal (literal_truth values (negation_of (stands 0))) ∙ negated_truth values (stands 0) ∙ ap not (zero_stands values)
  denied_says k (atom l) right = one_literal (literal_truth values (negation_of l)) ∙ negated_truth values l
  denied_says k (denial m) right = refl
  denied_says k (conjunction ms) right = one_clause (clause_truth values (denied_literals points nodes inner ms)) ∙ any_denied ms (right refl)
  denied_says k (disjunction ms) right = refl

  -- the clauses of an inner node hold exactly where its fresh point says whether it is true
  pub inner_says : (f : ℕ) (node : NodeValue) → (needs false false true node ≡ true → MembersRight points nodes inner values node)
      → problem_truth values (inner_clauses points nodes inner f node) ≡ inner_truth values (truth nodes values) (literal_truth values (stands f)) node
  inner_says f always right = refl
  inner_says f (atom l) right = refl
  inner_says f (denial m) right = refl
  inner_says f (conjunction ms) right =
      list_all-append (clause_truth values) (map (λ m. fails f ∷ literal_of points nodes inner m ∷ []) ms) ((stands f ∷ denied_literals points nodes inner ms) ∷ [])
      ∙ three (λ a b c. a && ((b || c) && true)) _ _ _ _ (literal_truth values (stands f)) _ (all_implied f ms (right refl)) refl (any_denied ms (right refl))
      ∙ both_same (literal_truth values (stands f)) (list_all (truth nodes values) ms)
  inner_says f (disjunction ms) right =
      three (λ a b c. (a || b) && c) _ _ _ _ _ _ (fails_truth values f) (any_literal ms (right refl)) (all_denied f ms (right refl))
      ∙ either_same (literal_truth values (stands f)) (list_any (truth nodes values) ms)

-- ---- the clauses of the nodes below n

all_append : (values : List ℤ) (xs ys : List (List Literal)) → problem_truth values (xs ++ ys) ≡ (problem_truth values xs && problem_truth values ys)
all_append values xs ys = list_all-append (clause_truth values) xs ys

when_true : (values : List ℤ) (b : Bool) (clauses : List (List Literal)) → problem_truth values (when b clauses) ≡ true → b ≡ true → problem_truth values clauses ≡ true
when_true values true clauses h e = h
when_true values false clauses h e = absurd cc

true_when : (values : List ℤ) (b : Bool) (clauses : List (List Literal)) → (b ≡ true → problem_truth values clauses ≡ true) → problem_truth values (when b clauses) ≡ true
true_when values true clauses h = h refl
true_when values false clauses h = refl

-- the clauses of a node hold: where it is asserted, where it is denied, where it is inner
pub record NodeHolds (points : ℕ) (nodes : List NodeValue) (p : Polarity) (inner : List ℕ) (values : List ℤ) (k : ℕ) : Type 0 where
  pub asserted : is_among k p.asserted ≡ true → problem_truth values (asserted_clauses points nodes inner k (node_at nodes k)) ≡ true
  pub denied : is_among k p.denied ≡ true → problem_truth values (denied_clauses points nodes inner k (node_at nodes k)) ≡ true
  pub inner_too : is_among k inner ≡ true → problem_truth values (inner_clauses points nodes inner (fresh_point points inner k) (node_at nodes k)) ≡ true

module _ (points : ℕ) (nodes : List NodeValue) (p : Polarity) (inner : List ℕ) (values : List ℤ) where
  node_holds : (k : ℕ) → problem_truth values (node_clauses points nodes p inner k) ≡ true → NodeHolds points nodes p inner values k
  node_holds k h =
      let a : List (List Literal) = asserted_clauses points nodes inner k (node_at nodes k) in
      let d : List (List Literal) = denied_clauses points nodes inner k (node_at nodes k) in
      let i : List (List Literal) = inner_clauses points nodes inner (fresh_point points inner k) (node_at nodes k) in
      let wa : List (List Literal) = when (is_among k p.asserted) a in
      let wd : List (List Literal) = when (is_among k p.denied) d in
      let wi : List (List Literal) = when (is_among k inner) i in
      let first = and_parts (problem_truth values wa) (problem_truth values (wd ++ wi)) (sym (all_append values wa (wd ++ wi)) ∙ h) in
      let second = and_parts (problem_truth values wd) (problem_truth values wi) (sym (all_append values wd wi) ∙ first.1) in
      record {
        asserted = when_true values (is_among k p.asserted) a first.0;
        denied = when_true values (is_among k p.denied) d second.0;
        inner_too = when_true values (is_among k inner) i second.1;
      }

  holds_node : (k : ℕ) → NodeHolds points nodes p inner values k → problem_truth values (node_clauses points nodes p inner k) ≡ true
  holds_node k h =
      let a : List (List Literal) = asserted_clauses points nodes inner k (node_at nodes k) in
      let d : List (List Literal) = denied_clauses points nodes inner k (node_at nodes k) in
      let i : List (List Literal) = inner_clauses points nodes inner (fresh_point points inner k) (node_at nodes k) in
      let wa : List (List Literal) = when (is_among k p.asserted) a in
      let wd : List (List Literal) = when (is_among k p.denied) d in
      let wi : List (List Literal) = when (is_among k inner) i in
      let second : problem_truth values (wd ++ wi) ≡ true =
      all_append values wd wi ∙ both_and (problem_truth values wd) (problem_truth values wi) (true_when values (is_among k p.denied) d h.denied) (true_when values (is_among k inner) i h.inner_too) in
      all_append values wa (wd ++ wi) ∙ both_and (problem_truth values wa) (problem_truth values (wd ++ wi)) (true_when values (is_among k p.asserted) a h.asserted) second

  pub below_holds : (n k : ℕ) → problem_truth values (clauses_below points nodes p inner n) ≡ true → k < n → NodeHolds points nodes p inner values k
  below_holds zero k h lt = absurd (omega arith)
  below_holds (suc n) k h lt =
      let parts = and_parts (problem_truth values (clauses_below points nodes p inner n)) (problem_truth values (node_clauses points nodes p inner n)) (sym (all_append values (clauses_below points nodes p inner n) (node_clauses points nodes p inner n)) ∙ h) in
      let le : k ≤ n = omega arith in
      elim (eq-or-lt_of_le le) [
        | inl e ↦ subst (λ (j : ℕ). NodeHolds points nodes p inner values j) (sym e) (node_holds n parts.1)
        | inr less ↦ below_holds n k parts.0 less
      ]

  pub holds_below : (n : ℕ) → ((k : ℕ) → k < n → NodeHolds points nodes p inner values k) → problem_truth values (clauses_below points nodes p inner n) ≡ true
  holds_below zero h = refl
  holds_below (suc n) h =
      all_append values (clauses_below points nodes p inner n) (node_clauses points nodes p inner n)
      ∙ both_and (problem_truth values (clauses_below points nodes p inner n)) (problem_truth values (node_clauses points nodes p inner n))
      (holds_below n (λ k lt. h k (omega arith))) (holds_node n (h n (omega arith)))
