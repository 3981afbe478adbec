-- The problem with one more clause.
use Rattle.std.proofs.Common.{arith, sym, ◌∙◌, subst, ◌≡◌, ℕ, zero, suc, ◌+◌, List, [], ◌∷◌, ◌++◌, length, All, Contains, ℤ, ◌<ℤ◌}
use Rattle.std.proofs.lemmas.Int.{ints}
use Rattle.std.proofs.lemmas.List.{get_or_append_left, length-append}
use Rattle.std.proofs.Math.Seq.{get_or-append_seam}
use Rattle.std.proofs.lemmas.List.Elements.{All-nil, All-cons, All-append}
use Rattle.stn_core.specs.declared.literal.Literal.{Literal}
use Rattle.stn_core.specs.declared.problem.Problem.{Problem}
use Rattle.stn_core.specs.Literal.{Holds, IsOver}
use Rattle.stn_core.specs.Problem.{ClauseHolds}
use Rattle.stn_core.specs.Solution.{IsSolution}
use Rattle.best_values.specs.Bests.{objective}
use Rattle.best_values.specs.Questions.{below, clauses_below, Asks}

-- its clauses are over the points
pub asked_over : (problem : Problem) (x y : ℕ) (m : ℤ) (clauses : List (List Literal)) → clauses ≡ clauses_below problem x y m → IsOver problem.points (below x y m) → All (λ (clause : List Literal). All (IsOver problem.points) clause) clauses
asked_over problem x y m clauses is over =
    subst (All (λ (clause : List Literal). All (IsOver problem.points) clause)) (sym is)
    (All-append (λ (clause : List Literal). All (IsOver problem.points) clause) problem.clauses ((below x y m ∷ []) ∷ []) problem.over
    (All-cons (λ (clause : List Literal). All (IsOver problem.points) clause) (below x y m ∷ []) [] (All-cons (IsOver problem.points) (below x y m) [] over (All-nil (IsOver problem.points))) (All-nil (λ (clause : List Literal). All (IsOver problem.points) clause))))

all_left : {X : Type 0} (P : X → Type 0) (xs ys : List X) → All P (xs ++ ys) → All P xs
all_left P xs ys all k d h = subst P (get_or_append_left xs ys d k h) (all k d (omega (arith, length-append xs ys, h)))

all_last : {X : Type 0} (P : X → Type 0) (xs : List X) (y : X) → All P (xs ++ y ∷ []) → P y
all_last P xs y all = subst P (get_or-append_seam xs y [] y) (all (length xs) y (omega (arith, length-append xs (y ∷ []))))

only : (l m : Literal) → Contains (l ∷ []) m → l ≡ m
only l m (zero, lt, e) = e
only l m (suc k, lt, e) = absurd (omega (arith, lt))

-- what solves it solves the problem, and has the objective less
pub asked_solved : (problem asked : Problem) (x y : ℕ) (m : ℤ) (values : List ℤ) → Asks problem x y m asked → IsSolution asked values → IsSolution problem values × (objective x y values <ℤ m)
asked_solved problem asked x y m values asks s =
    let all : All (ClauseHolds values) (clauses_below problem x y m) = subst (All (ClauseHolds values)) asks.clauses s.holds in
    let solution : IsSolution problem values = record {
      count = s.count ∙ asks.points;
      range = s.range;
      holds = all_left (ClauseHolds values) problem.clauses ((below x y m ∷ []) ∷ []) all;
    } in
    let clause : ClauseHolds values (below x y m ∷ []) = all_last (ClauseHolds values) problem.clauses (below x y m ∷ []) all in
    let holds : Holds values (below x y m) = subst (Holds values) (sym (only (below x y m) clause.0 clause.1)) clause.2 in
    (solution, omega (arith, ints, holds))
