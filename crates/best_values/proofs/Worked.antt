-- The worked examples.
use Rattle.std.proofs.Common.{arith, refl, ap, sym, ◌∙◌, subst, ◌≡◌, ℕ, zero, suc, ◌<◌, List, [], ◌∷◌, length, All, Contains, get_or, ℤ, pos, negsuc}
use Rattle.std.proofs.lemmas.Int.{ints}
use Rattle.std.proofs.lemmas.List.Elements.{All-nil, All-cons}
use Rattle.stn_core.specs.declared.literal.Literal.{Literal}
use Rattle.stn_core.specs.declared.problem.Problem.{Problem}
use Rattle.stn_core.specs.Literal.{value_at, Holds}
use Rattle.stn_core.specs.Problem.{ClauseHolds, ProblemHolds}
use Rattle.best_values.specs.Bests.{objective, IsModel, IsBestValue, IsCut, ClauseIsKept, IsFreeSet}
use Rattle.best_values.specs.Examples.{literal, two_orders, BestExample, FreeSetExample, NotKeptExample}

-- the one element of a list
only : {X : Type 0} (a b : X) → Contains (a ∷ []) b → a ≡ b
only a b (zero, lt, e) = e
only a b (suc k, lt, e) = absurd (omega (arith, lt))

abbrev values_of : List ℤ
values_of = pos 0 ∷ pos 0 ∷ pos 5 ∷ []

holds_first : (values : List ℤ) (l : Literal) (clause : List Literal) → Holds values l → ClauseHolds values (l ∷ clause)
holds_first values l clause h = (l, (0, omega arith, refl), h)

abbrev behind_4 : List (List Literal)
behind_4 = (literal 2 0 (pos 5) ∷ []) ∷ []

abbrev behind_3 : List (List Literal)
behind_3 = (literal 0 2 (pos 0) ∷ []) ∷ behind_4

abbrev behind_2 : List (List Literal)
behind_2 = (literal 1 2 (negsuc 3) ∷ literal 2 1 (negsuc 1) ∷ []) ∷ behind_3

abbrev behind_1 : List (List Literal)
behind_1 = (literal 1 0 (pos 9) ∷ []) ∷ behind_2

values_hold : ProblemHolds values_of two_orders
values_hold =
    let P : List Literal → Type 0 = ClauseHolds values_of in
    let all_4 : All P behind_4 = All-cons P (literal 2 0 (pos 5) ∷ []) [] (holds_first values_of (literal 2 0 (pos 5)) [] (omega (arith, ints))) (All-nil P) in
    let all_3 : All P behind_3 = All-cons P (literal 0 2 (pos 0) ∷ []) behind_4 (holds_first values_of (literal 0 2 (pos 0)) [] (omega (arith, ints))) all_4 in
    let all_2 : All P behind_2 = All-cons P (literal 1 2 (negsuc 3) ∷ literal 2 1 (negsuc 1) ∷ []) behind_3 (holds_first values_of (literal 1 2 (negsuc 3)) (literal 2 1 (negsuc 1) ∷ []) (omega (arith, ints))) all_3 in
    let all_1 : All P behind_1 = All-cons P (literal 1 0 (pos 9) ∷ []) behind_2 (holds_first values_of (literal 1 0 (pos 9)) [] (omega (arith, ints))) all_2 in
    All-cons P (literal 0 1 (pos 0) ∷ []) behind_1 (holds_first values_of (literal 0 1 (pos 0)) [] (omega (arith, ints))) all_1

-- a clause of one literal
unit_holds : (values : List ℤ) (l : Literal) → ClauseHolds values (l ∷ []) → Holds values l
unit_holds values l h = subst (Holds values) (sym (only l h.0 h.1)) h.2

pub best : BestExample
best problem points_is clauses_is = record {
  values = pos 0 ∷ pos 0 ∷ pos 5 ∷ [];
  model = record {
    count = sym points_is;
    holds = subst (All (ClauseHolds (pos 0 ∷ pos 0 ∷ pos 5 ∷ []))) (sym clauses_is) values_hold;
  };
  attained = refl;
  least = λ others other.
      let all : All (ClauseHolds others) two_orders = subst (All (ClauseHolds others)) clauses_is other.holds in
      let low : Holds others (literal 0 1 (pos 0)) = unit_holds others (literal 0 1 (pos 0)) (all 0 [] (omega arith)) in
      let high : Holds others (literal 2 0 (pos 5)) = unit_holds others (literal 2 0 (pos 5)) (all 4 [] (omega arith)) in
      omega (arith, ints, low, high);
}

pub free : FreeSetExample
free problem points_is clauses_is = record {
  among = All-cons (λ (point : ℕ). point < problem.points) 1 [] (omega (arith, points_is)) (All-nil (λ (point : ℕ). point < problem.points));
  ascending = λ k h. absurd (omega (arith, h));
  x_in = (0, omega arith, refl);
  y_out = λ h. let e = only 1 2 h in absurd (omega (arith, e));
  kept = subst (All (ClauseIsKept (pos 0 ∷ pos 0 ∷ pos 0 ∷ []) (1 ∷ []))) (sym clauses_is) (All-nil (ClauseIsKept (pos 0 ∷ pos 0 ∷ pos 0 ∷ []) (1 ∷ [])));
}

pub not_kept : NotKeptExample
not_kept h =
    let is : literal 2 1 (pos 0) ≡ h.0 = only (literal 2 1 (pos 0)) h.0 h.1 in
    let whole : IsCut (1 ∷ []) (literal 2 1 (pos 0)) → ⊥ = subst (λ (l : Literal). IsCut (1 ∷ []) l → ⊥) (sym is) h.2.1 in
    whole ((0, omega arith, refl), λ inside. let e = only 1 2 inside in absurd (omega (arith, e)))
