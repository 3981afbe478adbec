-- The ends of a difference in sorted summands, run by run, and the difference that they make.
use Rattle.std.proofs.Common.{refl, ap, sym, subst, ◌∙◌, arith, ◌≡◌, ℕ, ◌<◌, ◌≤◌, ◌+◌, ◌-◌, List, [], ◌∷◌, length, take, drop, Bool, cond, Option, Some, None, ℤ, pos, neg_ℤ}
use Rattle.std.specs.Prelude.{Result, Ok, Err}
use Rattle.std.specs.List.{AllByRecursion}
use Rattle.std.proofs.lemmas.List.{take_rest, length-drop, drop-drop, drop_all}
use Rattle.idl_linear.specs.declared.summand.Summand.{Summand}
use Rattle.idl_linear.specs.declared.difference.Difference.{Difference}
use Rattle.idl_linear.specs.declared.difference.Ends.{Ends as Met}
use Rattle.idl_linear.specs.declared.error.DifferenceRefusal.{DifferenceRefusal}
use Rattle.idl_linear.specs.declared.error.DifferenceRefusal.TheVariants.{NotADifference, BoundTooLarge}
use Rattle.idl_linear.specs.Limits.{number_limit}
use Rattle.idl_linear.specs.Linear.{collected, put_before, is_within}
use Rattle.idl_linear.specs.Forms.{IsSummand}
use Rattle.idl_linear.specs.Differences.{ends_of, difference_by}
use Rattle.idl_linear.specs.code.Steps.{RiseFrom, ends_with, ends_through}
use Rattle.idl_linear.proofs.Coefficients.{summand, ascend-collected}
use Rattle.idl_linear.proofs.Ends.{ends_from_start, ends_step}
use Rattle.idl_linear.proofs.Outcomes.{accepted_by, refused_by}
use Rattle.idl_linear.proofs.Running.{rise-drop, each-drop}
use Rattle.idl_linear.proofs.Sorting.{each_above}

-- what is known up to the summand at `from`
pub record IsEnding (summands : List Summand) (ends : Met) (from : ℕ) : Type 0 where
  pub len : from ≤ length summands
  pub same : ends_through (Some ends) (collected (drop from summands)) ≡ ends_of (collected summands)
  pub rises : RiseFrom 1 (drop from summands)
  pub each : AllByRecursion IsSummand (drop from summands)

pub ending_starts : (summands : List Summand) → AllByRecursion IsSummand summands → RiseFrom 1 summands → IsEnding summands (record { x = 0; y = 0 }) 0
ending_starts summands each rises = record {
  len = omega arith;
  same = ends_from_start (collected summands) (ascend-collected 0 summands (each_above summands each));
  rises = rises;
  each = each;
}

module _ (summands : List Summand) (ends : Met) (from point count : ℕ) (total : ℤ) (h : IsEnding summands ends from) (some : 0 < count) (len : count ≤ length (take (length summands - from) (drop from summands)))
    (e : collected (take (length summands - from) (drop from summands)) ≡ put_before (record { point = point; coefficient = total }) (collected (drop count (take (length summands - from) (drop from summands)))))
    (o : Option Met) (f : o ≡ ends_with ends (record { point = point; coefficient = total })) where
  part : take (length summands - from) (drop from summands) ≡ drop from summands
  part = take_rest summands from

  rest : drop count (drop from summands) ≡ drop (from + count) summands
  rest = drop-drop count from summands

  run : collected (drop from summands) ≡ put_before (summand point total) (collected (drop (from + count) summands))
  run =
      ap collected (sym part) ∙ e
      ∙ ap (λ (l : List Summand). put_before (summand point total) (collected (drop count l))) part
      ∙ ap (λ (l : List Summand). put_before (summand point total) (collected l)) rest

  step : ends_through o (collected (drop (from + count) summands)) ≡ ends_of (collected summands)
  step = sym (ends_step ends (summand point total) (collected (drop (from + count) summands)) (collected (drop from summands)) o run f) ∙ h.same

  pub ending_stops : o ≡ None → None ≡ ends_of (collected summands)
  ending_stops none = ap (λ (p : Option Met). ends_through p (collected (drop (from + count) summands))) (sym none) ∙ step

  pub ending_goes : (m : Met) → o ≡ Some m → IsEnding summands m (from + count)
  ending_goes m is =
      let longer = ap (length {A = Summand}) part ∙ length-drop from summands in
      record {
        len = omega (arith, longer, len, h.len, some);
        same = ap (λ (p : Option Met). ends_through p (collected (drop (from + count) summands))) (sym is) ∙ step;
        rises = subst (λ (l : List Summand). RiseFrom 1 l) rest (rise-drop count 1 (drop from summands) h.rises);
        each = subst (λ (l : List Summand). AllByRecursion IsSummand l) rest (each-drop count (drop from summands) h.each);
      }

pub ending_ends : (summands : List Summand) (ends : Met) (from : ℕ) → IsEnding summands ends from → length summands ≤ from → Some (ends.x, ends.y) ≡ ends_of (collected summands)
ending_ends summands ends from h all =
    let none : drop from summands ≡ [] = drop_all from summands all in
    sym (ap (λ (l : List Summand). ends_through (Some ends) (collected l)) none) ∙ h.same

-- a number that is found within its limit, and one that isn't
pub number_found : (p : ℕ × ℕ) (number constant n : ℤ) → neg_ℤ constant ≡ number → Some n ≡ cond (is_within number_limit number) (Some number) None → Ok (record { x = p.0; y = p.1; n = n }) ≡ difference_by (Some p) constant
number_found p number constant n e h =
    sym (ap (λ (z : ℤ). cond {A = Result Difference DifferenceRefusal} (is_within number_limit z) (Ok (record { x = p.0; y = p.1; n = z })) (Err BoundTooLarge)) e ∙ accepted_by p number n (is_within number_limit number) h)
