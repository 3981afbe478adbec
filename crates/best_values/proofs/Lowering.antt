-- The points of a set lowered together.
use Rattle.std.proofs.Common.{refl, arith, ap, ◌∙◌, subst, inl, inr, ◌≡◌, ℕ, suc, zero, ◌+◌, ◌<◌, Bool, cond, nat_eq, List, [], ◌∷◌, length, All, Contains, get_or, ℤ, pos, ◌-ℤ◌, unsigned_abs}
use Rattle.std.specs.List.{list_any}
use Rattle.std.proofs.lemmas.Int.{ints}
use Rattle.std.proofs.lemmas.List.Elements.{All-nil, All-cons, All-append}
use Rattle.stn_core.specs.declared.literal.Literal.{Literal}
use Rattle.stn_core.specs.declared.problem.Problem.{Problem}
use Rattle.stn_core.specs.Literal.{value_at, Holds, IsOver, negation_of}
use Rattle.stn_core.specs.Problem.{ClauseHolds, ProblemHolds}
use Rattle.stn_core.proofs.Consequences.{either}
use Rattle.best_values.specs.Bests.{objective, IsModel, IsBestValue, IsCut, ClauseIsKept, IsFreeSet}
use Rattle.best_values.specs.Questions.{below, clauses_below}
use Rattle.best_values.proofs.Sets.{Inside, Outside, cases_set}
use Rattle.best_values.proofs.Widths.{le-abs}

-- the value of the point with this number, lowered if it is in the set
lowered : List ℕ → ℕ → ℕ → ℤ → ℤ
lowered set d p v = cond (list_any (nat_eq p) set) (v -ℤ pos d) v

lowered_inside : (set : List ℕ) (d p : ℕ) (v : ℤ) → Inside set p → lowered set d p v ≡ v -ℤ pos d
unfolding lowered
lowered_inside set d p v h = ap (λ (b : Bool). cond b (v -ℤ pos d) v) h.test

lowered_outside : (set : List ℕ) (d p : ℕ) (v : ℤ) → Outside set p → lowered set d p v ≡ v
unfolding lowered
lowered_outside set d p v h = ap (λ (b : Bool). cond b (v -ℤ pos d) v) h.test

-- all values, of which the first is that of this point
lowered_from : List ℕ → ℕ → ℕ → List ℤ → List ℤ
lowered_from set d from [] = []
lowered_from set d from (v ∷ vs) = lowered set d from v ∷ lowered_from set d (suc from) vs

lowered_count : (set : List ℕ) (d from : ℕ) (vs : List ℤ) → length (lowered_from set d from vs) ≡ length vs
unfolding lowered_from
lowered_count set d from [] = refl
lowered_count set d from (v ∷ vs) = ap suc (lowered_count set d (suc from) vs)

lowered_value : (set : List ℕ) (d from : ℕ) (vs : List ℤ) (p : ℕ) → p < length vs → value_at (lowered_from set d from vs) p ≡ lowered set d (from + p) (value_at vs p)
unfolding lowered_from
lowered_value set d from [] p h = absurd (omega arith)
lowered_value set d from (v ∷ vs) zero h = let e : from ≡ from + 0 = omega arith in ap (λ (q : ℕ). lowered set d q v) e
lowered_value set d from (v ∷ vs) (suc p) h =
    let e : suc from + p ≡ from + suc p = omega arith in
    lowered_value set d (suc from) vs p (omega arith) ∙ ap (λ (q : ℕ). lowered set d q (value_at vs p)) e

pub lowered_all : List ℕ → ℕ → List ℤ → List ℤ
lowered_all set d vs = lowered_from set d 0 vs

at_inside : (set : List ℕ) (d : ℕ) (vs : List ℤ) (p : ℕ) → p < length vs → Inside set p → value_at (lowered_all set d vs) p ≡ value_at vs p -ℤ pos d
unfolding lowered_all
at_inside set d vs p h i =
    let e : 0 + p ≡ p = omega arith in
    lowered_value set d 0 vs p h ∙ (ap (λ (q : ℕ). lowered set d q (value_at vs p)) e ∙ lowered_inside set d p (value_at vs p) i)

at_outside : (set : List ℕ) (d : ℕ) (vs : List ℤ) (p : ℕ) → p < length vs → Outside set p → value_at (lowered_all set d vs) p ≡ value_at vs p
unfolding lowered_all
at_outside set d vs p h o =
    let e : 0 + p ≡ p = omega arith in
    lowered_value set d 0 vs p h ∙ (ap (λ (q : ℕ). lowered set d q (value_at vs p)) e ∙ lowered_outside set d p (value_at vs p) o)

-- a literal that is not cut holds still
still_holds : (set : List ℕ) (d : ℕ) (vs : List ℤ) (l : Literal) → l.x < length vs → l.y < length vs → Holds vs l → (IsCut set l → ⊥) → Holds (lowered_all set d vs) l
still_holds set d vs l x_in y_in h kept =
    elim (cases_set set l.x) [
      | inl xi ↦
          let ex = at_inside set d vs l.x x_in xi in
          elim (cases_set set l.y) [
            | inl yi ↦ let ey = at_inside set d vs l.y y_in yi in omega (arith, ints)
            | inr yo ↦ let ey = at_outside set d vs l.y y_in yo in omega (arith, ints)
          ]
      | inr xo ↦
          let ex = at_outside set d vs l.x x_in xo in
          elim (cases_set set l.y) [
            | inl yi ↦ absurd (kept (yi.fact, xo.fact))
            | inr yo ↦ let ey = at_outside set d vs l.y y_in yo in omega (arith, ints)
          ]
    ]

literal_over : (problem : Problem) (clause : List Literal) (l : Literal) → All (IsOver problem.points) clause → Contains clause l → IsOver problem.points l
literal_over problem clause l over h = subst (IsOver problem.points) h.2 (over h.0 l h.1)

clause_still : (problem : Problem) (set : List ℕ) (d : ℕ) (vs : List ℤ) (clause : List Literal) → length vs ≡ problem.points → All (IsOver problem.points) clause → ClauseIsKept vs set clause → ClauseHolds (lowered_all set d vs) clause
clause_still problem set d vs clause count over kept =
    let o : IsOver problem.points kept.0 = literal_over problem clause kept.0 over kept.1 in
    let x_in = o.x_in in
    let y_in = o.y_in in
    (kept.0, kept.1, still_holds set d vs kept.0 (omega (arith, count)) (omega (arith, count)) kept.2.0 kept.2.1)

pub model_lowered : (problem : Problem) (x y : ℕ) (vs : List ℤ) (set : List ℕ) (d : ℕ) → length vs ≡ problem.points → IsFreeSet problem x y vs set → IsModel problem (lowered_all set d vs)
unfolding lowered_all
model_lowered problem x y vs set d count free = record {
  count = lowered_count set d 0 vs ∙ count;
  holds = λ k e h. clause_still problem set d vs (get_or problem.clauses k e) count (problem.over k e h) (free.kept k e h);
}

pub objective_lowered : (problem : Problem) (x y : ℕ) (vs : List ℤ) (set : List ℕ) (d : ℕ) → x < problem.points → y < problem.points → length vs ≡ problem.points → IsFreeSet problem x y vs set → objective x y (lowered_all set d vs) ≡ objective x y vs -ℤ pos d
objective_lowered problem x y vs set d x_in y_in count free =
    elim (cases_set set x) [
      | inl xi ↦
          let ex = at_inside set d vs x (omega (arith, count)) xi in
          elim (cases_set set y) [
            | inl yi ↦ absurd (free.y_out yi.fact)
            | inr yo ↦ let ey = at_outside set d vs y (omega (arith, count)) yo in omega (arith, ints)
          ]
      | inr xo ↦ absurd (xo.fact free.x_in)
    ]

pub none_best : (problem : Problem) (x y : ℕ) (vs : List ℤ) (set : List ℕ) → x < problem.points → y < problem.points → length vs ≡ problem.points → IsFreeSet problem x y vs set → (m : ℤ) → IsBestValue problem x y m → ⊥
none_best problem x y vs set x_in y_in count free m best =
    let d : ℕ = unsigned_abs (objective x y vs -ℤ m) + 1 in
    let model = model_lowered problem x y vs set d count free in
    let value = objective_lowered problem x y vs set d x_in y_in count free in
    let least = best.least (lowered_all set d vs) model in
    let far = le-abs (objective x y vs -ℤ m) in
    omega (arith, ints)

below_holds : (problem : Problem) (x y : ℕ) (m : ℤ) (vs : List ℤ) → ProblemHolds vs problem.clauses → Holds vs (below x y m) → ProblemHolds vs (clauses_below problem x y m)
below_holds problem x y m vs holds low =
    let clause : ClauseHolds vs (below x y m ∷ []) = (below x y m, (0, omega arith, refl), low) in
    All-append (ClauseHolds vs) problem.clauses ((below x y m ∷ []) ∷ []) holds (All-cons (ClauseHolds vs) (below x y m ∷ []) [] clause (All-nil (ClauseHolds vs)))

pub is_best : (problem : Problem) (x y : ℕ) (m : ℤ) (values : List ℤ) → IsModel problem values → objective x y values ≡ m → ((others : List ℤ) → ProblemHolds others (clauses_below problem x y m) → ⊥) → IsBestValue problem x y m
is_best problem x y m values model attained none = record {
  values = values;
  model = model;
  attained = attained;
  least = λ others other.
      elim (either others (below x y m)) [
        | inl low ↦ absurd (none others (below_holds problem x y m others other.holds low))
        | inr high ↦ let h : Holds others (negation_of (below x y m)) = high in omega (arith, ints)
      ];
}
