-- From question to question.
use Rattle.std.proofs.Common.{arith, ap, sym, inl, inr, ◌∙◌, subst, ◌≡◌, ℕ, suc, ◌+◌, ◌*◌, ◌<◌, ◌≤◌, List, ℤ, pos, negsuc, neg_ℤ, ◌+ℤ◌, ◌-ℤ◌, ◌≤ℤ◌, ◌<ℤ◌}
use Rattle.std.proofs.lemmas.Int.{ints, by_lt_z}
use Rattle.std.proofs.Math.Nat.{mul-suc}
use Rattle.stn_core.specs.declared.problem.Problem.{Problem}
use Rattle.stn_core.specs.Literal.{value_at}
use Rattle.stn_core.specs.Schedule.{IsInRange}
use Rattle.stn_core.specs.Solution.{IsSolution}
use Rattle.best_values.specs.Widths.{width_of, objective_limit, Fits, IsWithinLimit}
use Rattle.best_values.specs.Bests.{objective}
use Rattle.better_schedules.specs.declared.incumbent.Incumbent.{Incumbent}
use Rattle.better_schedules.specs.declared.descent.Descent.{Descent}
use Rattle.better_schedules.specs.Near.{span}
use Rattle.better_schedules.specs.code.Choices.{IsFlat}
use Rattle.better_schedules.specs.code.Incumbents.{IsIncumbent, IsNoWorse, IsOpening}
use Rattle.better_schedules.specs.code.Descents.{IsFloor, IsMiddle, IsDescent, IsTooLow, LeadsOn, rank, left_to_ask}

-- a smaller value has a smaller rank
rank_less : (a b : ℤ) → a <ℤ b → pos 0 ≤ℤ b → rank a < rank b
unfolding rank
rank_less (pos m) (pos n) lt low = omega (arith, ints)
rank_less (negsuc m) (pos n) lt low = omega (arith, ints)
rank_less (pos m) (negsuc n) lt low = absurd (omega (arith, ints))
rank_less (negsuc m) (negsuc n) lt low = absurd (omega (arith, ints))

rank_le : (a b : ℤ) → a ≤ℤ b → rank a ≤ rank b
unfolding rank
rank_le (pos m) (pos n) le = omega (arith, ints)
rank_le (negsuc m) (pos n) le = omega (arith, ints)
rank_le (pos m) (negsuc n) le = absurd (omega (arith, ints))
rank_le (negsuc m) (negsuc n) le = omega (arith, ints)

pub span_small : (problem : Problem) → Fits problem → problem.points * width_of problem.clauses ≤ objective_limit
span_small problem fits =
    let e : problem.points * suc (width_of problem.clauses) ≡ problem.points * width_of problem.clauses + problem.points = mul-suc problem.points (width_of problem.clauses) in
    let f : problem.points * (width_of problem.clauses + 1) ≡ problem.points * suc (width_of problem.clauses) = ap (λ (w : ℕ). problem.points * w) (omega arith) in
    omega (arith, e, f, fits)

-- a value within the span is within the limit
pub within_limit : (problem : Problem) (value : ℤ) → Fits problem → neg_ℤ (span problem) ≤ℤ value → value ≤ℤ span problem → IsWithinLimit value
within_limit problem value fits low high =
    let small = span_small problem fits in
    record { low = omega (arith, ints); high = omega (arith, ints) }

-- a bound that is asked for is no more than the best value, and within the limit
pub middle_most : (low high bound : ℤ) → IsMiddle low high bound → bound ≤ℤ high
middle_most low high bound mid = elim mid [ inl e ↦ omega (arith, ints) | inr between ↦ let lt = between.1 in omega (arith, ints) ]

pub middle_within : (problem : Problem) (low high bound : ℤ) → Fits problem → IsFloor problem low → neg_ℤ (span problem) ≤ℤ high → high ≤ℤ span problem → IsMiddle low high bound → IsWithinLimit bound
middle_within problem low high bound fits floor near most mid =
    let small = span_small problem fits in
    elim mid [
      | inl e ↦ record { low = omega (arith, ints); high = omega (arith, ints) }
      | inr between ↦ let low_lt = between.0 in let high_lt = between.1 in record { low = omega (arith, ints); high = omega (arith, ints) }
    ]

-- it is no lower than the floor
middle_floor : (problem : Problem) (low high bound : ℤ) → IsFloor problem low → neg_ℤ (span problem) ≤ℤ high → IsMiddle low high bound → IsFloor problem bound
middle_floor problem low high bound floor near mid =
    elim mid [ inl e ↦ omega (arith, ints) | inr between ↦ let lt = between.0 in omega (arith, ints) ]

-- no value up to the bound is there
pub raised_leads : (problem : Problem) (x y : ℕ) (old new : Descent) (bound : ℤ) → IsDescent problem x y old → neg_ℤ (span problem) ≤ℤ old.incumbent.value → IsMiddle old.lower.value old.incumbent.value bound → ¬ (bound ≡ old.incumbent.value) → new.incumbent ≡ old.incumbent → new.lower.value ≡ bound → LeadsOn problem x y old new
raised_leads problem x y old new bound d near mid other same_incumbent lower_is =
    let value_is : new.incumbent.value ≡ old.incumbent.value = ap (λ (i : Incumbent). i.value) same_incumbent in
    record {
      descent = record {
        opening = subst (IsOpening problem x y) (sym same_incumbent) d.opening;
        floor = subst (IsFloor problem) (sym lower_is) (middle_floor problem old.lower.value old.incumbent.value bound d.floor near mid);
      };
      less = elim mid [
        | inl e ↦ absurd (other e)
        | inr between ↦
            let low_lt = between.0 in
            let high_lt = between.1 in
            let first : rank (new.incumbent.value +ℤ span problem) ≤ rank (old.incumbent.value +ℤ span problem) = rank_le (new.incumbent.value +ℤ span problem) (old.incumbent.value +ℤ span problem) (omega (arith, ints)) in
            let second : rank (new.incumbent.value -ℤ new.lower.value) < rank (old.incumbent.value -ℤ old.lower.value) = rank_less (new.incumbent.value -ℤ new.lower.value) (old.incumbent.value -ℤ old.lower.value) (omega (arith, ints)) (omega (arith, ints)) in
            omega (arith, first, second)
      ];
    }

-- a schedule with a smaller value is there
pub improved_leads : (problem : Problem) (x y : ℕ) (old new : Descent) (m : ℤ) → IsDescent problem x y old → neg_ℤ (span problem) ≤ℤ old.incumbent.value → m <ℤ old.incumbent.value → IsNoWorse problem x y m new.incumbent → new.lower.value ≡ old.lower.value → LeadsOn problem x y old new
improved_leads problem x y old new m d near less no_worse lower_is =
    let most = no_worse.most in
    let before = d.opening.most in
    record {
      descent = record {
        opening = record { incumbent = no_worse.incumbent; most = omega (arith, ints) };
        floor = subst (IsFloor problem) (sym lower_is) d.floor;
      };
      less =
          let first : rank (new.incumbent.value +ℤ span problem) < rank (old.incumbent.value +ℤ span problem) = rank_less (new.incumbent.value +ℤ span problem) (old.incumbent.value +ℤ span problem) (omega (arith, ints)) (omega (arith, ints)) in
          let second : rank (new.incumbent.value -ℤ new.lower.value) ≤ rank (old.incumbent.value -ℤ old.lower.value) = rank_le (new.incumbent.value -ℤ new.lower.value) (old.incumbent.value -ℤ old.lower.value) (omega (arith, ints)) in
          omega (arith, first, second);
    }

-- a schedule near 0 has a value within the span
pub opening : (problem : Problem) (x y : ℕ) (values : List ℤ) (best : Incumbent) → x < problem.points → y < problem.points → IsFlat problem values → IsNoWorse problem x y (objective x y values) best → IsOpening problem x y best
opening problem x y values best x_in y_in flat no_worse =
    let count = flat.solution.count in
    let x_range : IsInRange (value_at values x) = flat.solution.range x (pos 0) (omega (arith, count, x_in)) in
    let high = x_range.high in
    let near = flat.near y y_in in
    let most = no_worse.most in
    record { incumbent = no_worse.incumbent; most = omega (arith, ints) }

-- a schedule with its value
pub incumbent_of : (problem : Problem) (x y : ℕ) (m : ℤ) (values : List ℤ) (best : Incumbent) → IsSolution problem values → best.schedule ≡ values → best.value ≡ objective x y values → best.value ≤ℤ m → IsNoWorse problem x y m best
incumbent_of problem x y m values best s schedule_is value_is most = record {
  incumbent = record {
    solution = subst (IsSolution problem) (sym schedule_is) s;
    value = value_is ∙ ap (λ (vs : List ℤ). objective x y vs) (sym schedule_is);
  };
  most = most;
}

-- below the span
pub too_low : (problem : Problem) (x y : ℕ) (best : Incumbent) (values : List ℤ) → IsIncumbent problem x y best → values ≡ best.schedule → ¬ (neg_ℤ (span problem) ≤ℤ best.value) → objective x y values <ℤ neg_ℤ (span problem)
too_low problem x y best values incumbent is far =
    let value : best.value ≡ objective x y values = incumbent.value ∙ ap (λ (vs : List ℤ). objective x y vs) (sym is) in
    by_lt_z (objective x y values) (neg_ℤ (span problem)) (λ (lt : objective x y values <ℤ neg_ℤ (span problem)). lt) (λ (ge : neg_ℤ (span problem) ≤ℤ objective x y values).
    absurd (far (subst (λ (m : ℤ). neg_ℤ (span problem) ≤ℤ m) (sym value) ge)))
