-- The clause form says what the asserted nodes say.
use Rattle.std.proofs.Common.{sym, subst, arith, ◌∙◌, ◌≡◌, ◌<◌, ◌≤◌, ◌+◌, ℕ, List, ◌++◌, map, length, Bool, true, ℤ}
use Rattle.std.specs.List.{AllByRecursion}
use Rattle.std.proofs.lemmas.List.{length-append}
use Rattle.stn_core.specs.declared.literal.Literal.{Literal}
use Rattle.stn_core.specs.declared.named.NamedValue.{NamedValue}
use Rattle.stn_core.specs.Literal.{IsOver}
use Rattle.stn_core.specs.Problem.{ProblemHolds}
use Rattle.idl_node.specs.declared.sort.Sort.{Sort}
use Rattle.idl_node.specs.Nodes.{NodeValue}
use Rattle.idl_node.specs.Sorts.{IsAtomFor}
use Rattle.idl_node.specs.Tables.{IsTableOf}
use Rattle.idl_node.specs.Truth.{literal_truth, truth, point_value, point_values}
use Rattle.clause_form.specs.Polarity.{polarity_of, inner_nodes}
use Rattle.clause_form.specs.ClauseForm.{inner_count, clauses_of, points_of}
use Rattle.clause_form.specs.Restricting.{restricted, AreOfSorts}
use Rattle.clause_form.proofs.Among.{each}
use Rattle.clause_form.proofs.BothDirections.{problem_holds, roots_true}
use Rattle.clause_form.proofs.Points.{points_some}
use Rattle.clause_form.proofs.Schedules.{restricted_of_sorts, restricted_alike, schedule_count, restricted_back, longer_alike, fresh_values, fresh_count, fresh_says}
use Rattle.clause_form.proofs.Truths.{truth-alike}

module _ (sorts : List Sort) (nodes : List NodeValue) (table : IsTableOf (IsAtomFor sorts) nodes) (roots : List ℕ) where
  -- on values on which the problem holds, the roots are true on the schedule that the values give
  pub schedule_of_values : (values : List ℤ) → AllByRecursion (λ r. r < length nodes) roots → length values ≡ points_of (length sorts + 1) nodes roots → ProblemHolds values (clauses_of (length sorts + 1) nodes roots)
      → AreOfSorts sorts (restricted sorts values) × AllByRecursion (λ r. truth nodes (point_values (restricted sorts values)) r ≡ true) roots
  schedule_of_values values in_range count holds =
      let some : length sorts + 1 ≤ points_of (length sorts + 1) nodes roots = points_some (length sorts + 1) nodes roots in
      let enough : length sorts < length values = omega (arith, count, some) in
      let schedule : List ℤ = point_values (restricted sorts values) in
      let same : (k : ℕ) → truth nodes values k ≡ truth nodes schedule k = truth-alike (IsAtomFor sorts) nodes table values schedule (restricted_alike sorts values enough) in (
        restricted_of_sorts sorts values enough,
        each (λ r. truth nodes values r ≡ true) (λ r. truth nodes schedule r ≡ true) roots (λ r h. sym (same r) ∙ h) (roots_true (IsAtomFor sorts) nodes table roots (length sorts + 1) values holds in_range),
      )

  -- a schedule on which the roots are true is given by values on which the problem holds
  pub values_of_schedule : (schedule : List NamedValue) → AreOfSorts sorts schedule → AllByRecursion (λ r. truth nodes (point_values schedule) r ≡ true) roots
      → (values : List ℤ) × (length values ≡ points_of (length sorts + 1) nodes roots) × (restricted sorts values ≡ schedule) × ProblemHolds values (clauses_of (length sorts + 1) nodes roots)
  unfolding points_of
  values_of_schedule schedule of_sorts true_all =
      let inner : List ℕ = inner_nodes nodes (polarity_of nodes roots) in
      let base : List ℤ = point_values schedule in
      let at : ℕ → Bool = truth nodes base in
      let fresh : List ℤ = fresh_values inner at (length nodes) in
      let values : List ℤ = base ++ fresh in
      let named : length (map point_value schedule) ≡ length sorts = schedule_count sorts schedule of_sorts in
      let count : length base ≡ length sorts + 1 = omega (arith, named) in
      let alike : (l : Literal) → IsAtomFor sorts l → literal_truth base l ≡ literal_truth values l =
      λ l a. longer_alike base fresh l (subst (λ (n : ℕ). IsOver n l) (sym count) a.over) in
      let same : (k : ℕ) → truth nodes base k ≡ truth nodes values k = truth-alike (IsAtomFor sorts) nodes table base values alike in
      let fresh_length : length fresh ≡ inner_count inner (length nodes) = fresh_count inner at (length nodes) in
      let both : length values ≡ length base + length fresh = length-append base fresh in (
        values,
        omega (arith, count, fresh_length, both),
        restricted_back sorts schedule fresh of_sorts,
        problem_holds (IsAtomFor sorts) nodes table roots (length sorts + 1) values
            (λ k lt c h. fresh_says schedule inner at (length nodes) k (length sorts + 1) count lt h ∙ same k)
            (each (λ r. truth nodes base r ≡ true) (λ r. truth nodes values r ≡ true) roots (λ r h. sym (same r) ∙ h) true_all),
      )
