-- What is known of an Int term's value from that of a part of it.
use Rattle.std.proofs.Common.{refl, ap, sym, subst, ◌∙◌, arith, ◌≡◌, ◌≢◌, ◌<◌, ◌≤◌, ℕ, List, length, Bool, Option, Some, None, true, false, ℤ, pos, neg_ℤ, ◌+ℤ◌}
use Rattle.std.proofs.lemmas.Int.{ints, int_wrap_fits, int_wrap-add_left}
use Rattle.std.specs.Int.{w128, int_wrap}
use Rattle.std.specs.Prelude.{is_some, IfSome}
use Rattle.stn_core.specs.declared.named.NamedValue.{NamedValue}
use Rattle.stn_core.specs.Named.{AreWithinLimit}
use Rattle.idl_node.specs.Truth.{point_values}
use Rattle.idl_cases.specs.Guarded.{CaseValue}
use Rattle.idl_cases.specs.code.Bounded.{AreLinear}
use Rattle.idl_cases.specs.code.CaseSums.{added_each, signed_cases}
use Rattle.idl_cases.specs.code.GuardBounds.{AreGuardsBelow}
use Rattle.idl_value.specs.code.Evaluating.{both_values, first_value, signed_number, signed_value, IsTermValue}
use Rattle.idl_value.specs.code.Looking.{branches_cases, either_value, step_value, where_true, whole_number, whole_of, whole_value, IsStepWithin}
use Rattle.idl_value.specs.declared.pending.Branches.{Branches}
use Rattle.idl_value.specs.declared.pending.Pending.{Pending}
use Rattle.idl_value.specs.declared.pending.Step.{Step}
use Rattle.idl_value.specs.declared.pending.Step.TheVariants.{Found, On}
use Rattle.idl_value.proofs.Evaluating.{added_first, first_branched, signed_first, small_cases, value_fits}

pub whole_own : (found : Option ℤ) → IfSome found IsTermValue → whole_of false (pos 0) None found ≡ found
whole_own (Some z) h =
    let same : pos 0 +ℤ z ≡ z = omega (arith, ints) in
    ap (λ (n : ℤ). Some n) (ap (int_wrap w128) same ∙ int_wrap_fits w128 z (value_fits z h))
whole_own None h = refl

module _ (sum : ℤ) (otherwise : Option ℤ) where
  -- ---- a part's negative

  number_denied : (negated other : Bool) (z : ℤ) → other ≢ negated → whole_number other sum z ≡ whole_number negated sum (neg_ℤ z)
  number_denied true true z h = absurd (h refl)
  number_denied true false z h = ap (λ (n : ℤ). int_wrap w128 (sum +ℤ n)) (omega (arith, ints))
  number_denied false true z h = refl
  number_denied false false z h = absurd (h refl)

  pub whole_denied : (negated other : Bool) (found : Option ℤ) → other ≢ negated → whole_of other sum otherwise found ≡ whole_of negated sum otherwise (signed_value true found)
  whole_denied negated other (Some z) h = ap (λ (n : ℤ). Some n) (number_denied negated other z h)
  whole_denied negated other None h = refl

  pub whole_same : (negated : Bool) (found : Option ℤ) → whole_of negated sum otherwise found ≡ whole_of negated sum otherwise (signed_value false found)
  whole_same negated (Some z) = refl
  whole_same negated None = refl

  -- ---- another part behind it

  pub whole_before : (negated : Bool) (found first : Option ℤ) → whole_of negated sum (whole_of negated sum otherwise found) first ≡ whole_of negated sum otherwise (either_value first found)
  whole_before negated found (Some z) = refl
  whole_before negated found None = refl

  -- ---- sums

  signed_sum : (negated : Bool) (v w : ℤ) → signed_number negated v +ℤ signed_number negated w ≡ signed_number negated (v +ℤ w)
  signed_sum true v w = omega (arith, ints)
  signed_sum false v w = refl

  pub whole_summed : (negated : Bool) (v : ℤ) (found : Option ℤ) → whole_of negated (whole_number negated sum v) otherwise found ≡ whole_of negated sum otherwise (both_values (Some v) found)
  whole_summed negated v (Some w) =
      let grouped : (sum +ℤ signed_number negated v) +ℤ signed_number negated w ≡ sum +ℤ (signed_number negated v +ℤ signed_number negated w) = omega (arith, ints) in
      ap (λ (n : ℤ). Some n)
      (int_wrap-add_left w128 (sum +ℤ signed_number negated v) (signed_number negated w)
      ∙ ap (int_wrap w128) (grouped ∙ ap (λ (n : ℤ). sum +ℤ n) (signed_sum negated v w)))
  whole_summed negated v None = refl

-- either summand first
pub both_swapped : (a b : Option ℤ) → both_values a b ≡ both_values b a
both_swapped (Some v) (Some w) = ap (λ (n : ℤ). Some n) (omega (arith, ints))
both_swapped (Some v) None = refl
both_swapped None (Some w) = refl
both_swapped None None = refl

either_none : (o : Option ℤ) → either_value o None ≡ o
either_none (Some z) = refl
either_none None = refl

either_found : (o p : Option ℤ) → is_some o ≡ true → either_value o p ≡ o
either_found (Some z) p h = refl
either_found None p h = absurd cc

either_empty : (o p : Option ℤ) → is_some o ≡ false → either_value o p ≡ p
either_empty (Some z) p h = absurd cc
either_empty None p h = refl

-- ---- a step

pub within_more : (count limit more : ℕ) (s : Step) → limit ≤ more → IsStepWithin count limit s → IsStepWithin count more s
within_more count limit more (Found o) le h = tt
within_more count limit more (On p) le h =
    let less = h.1 in
    (h.0, omega (arith, le, less))

module _ (test : ℕ → Bool) (values : List ℤ) where
  abbrev first : List CaseValue → Option ℤ
  first cases = first_value test values cases

  -- from a part, of which this is known, to what the step says
  module _ (before : Pending) (whole : Option ℤ) (count : ℕ) (s : Step) (known : whole_value before (first before.choices.now) ≡ whole)
      (value : step_value test values s ≡ whole_value before (first before.choices.now)) (less : IsStepWithin count (length before.choices.now) s) where
    pub step_found : (o : Option ℤ) → s ≡ Found o → o ≡ whole
    step_found o e = subst (λ (t : Step). step_value test values t ≡ whole_value before (first before.choices.now)) e value ∙ known

    pub step_on : (p : Pending) → s ≡ On p → whole_value p (first p.choices.now) ≡ whole
    step_on p e = subst (λ (t : Step). step_value test values t ≡ whole_value before (first before.choices.now)) e value ∙ known

    pub step_less : (p : Pending) → s ≡ On p → AreGuardsBelow count p.choices.now × (length p.choices.now < length before.choices.now)
    step_less p e = subst (λ (t : Step). IsStepWithin count (length before.choices.now) t) e less

  pub step_signed : (pending part : Pending) (negated : Bool) (cases xs : List CaseValue) (v : Option ℤ) → cases ≡ signed_cases negated xs
      → ((found : Option ℤ) → whole_value part found ≡ whole_value pending (signed_value negated found)) → v ≡ whole_value part (first xs) → v ≡ whole_value pending (first cases)
  step_signed pending part negated cases xs v e same h =
      h ∙ same (first xs) ∙ ap (whole_value pending) (sym (ap first e ∙ signed_first test values negated xs))

  pub step_summed : (part : Pending) (xs ys : List CaseValue) (found v : Option ℤ) → found ≡ first xs → v ≡ whole_value part (both_values found (first ys)) → v ≡ whole_value part (first (added_each xs ys))
  step_summed part xs ys found v e h =
      h ∙ ap (whole_value part) (ap (λ (o : Option ℤ). both_values o (first ys)) e ∙ sym (added_first test values xs ys))

  pub step_summed_second : (part : Pending) (xs ys : List CaseValue) (found v : Option ℤ) → found ≡ first ys → v ≡ whole_value part (both_values found (first xs)) → v ≡ whole_value part (first (added_each xs ys))
  step_summed_second part xs ys found v e h =
      h ∙ ap (whole_value part) (ap (λ (o : Option ℤ). both_values o (first xs)) e ∙ both_swapped (first ys) (first xs) ∙ sym (added_first test values xs ys))

  -- into a branch whose guard is true
  module _ (part : Pending) (b : Branches) (is_yes is_no : Bool) (e : test b.condition ≡ is_yes) (f : test b.denial ≡ is_no) (v : Option ℤ) where
    abbrev of_branches : Option ℤ
    of_branches = whole_value part (first (branches_cases b))

    all_branches : either_value (where_true is_yes (first b.yes.now)) (where_true is_no (first b.no.now)) ≡ first (branches_cases b)
    all_branches = sym (first_branched test values b.yes.now b.no.now b.condition b.denial is_yes is_no e f)

    pub only_no : is_yes ≡ false → v ≡ whole_value part (where_true is_no (first b.no.now)) → v ≡ of_branches
    only_no h k = k ∙ ap (whole_value part) (ap (λ (i : Bool). either_value (where_true i (first b.yes.now)) (where_true is_no (first b.no.now))) (sym h) ∙ all_branches)

    pub only_yes : is_no ≡ false → v ≡ whole_value part (where_true is_yes (first b.yes.now)) → v ≡ of_branches
    only_yes h k =
        k ∙ ap (whole_value part)
        (sym (either_none (where_true is_yes (first b.yes.now))) ∙ ap (λ (i : Bool). either_value (where_true is_yes (first b.yes.now)) (where_true i (first b.no.now))) (sym h) ∙ all_branches)

    module _ (found : Option ℤ) where
      pub yes_found : is_yes ≡ true → found ≡ first b.yes.now → is_some found ≡ true → v ≡ whole_value part found → v ≡ of_branches
      yes_found h g some k =
          k ∙ ap (whole_value part)
          (sym (either_found found (where_true is_no (first b.no.now)) some) ∙ ap (λ (o : Option ℤ). either_value o (where_true is_no (first b.no.now))) g
          ∙ ap (λ (i : Bool). either_value (where_true i (first b.yes.now)) (where_true is_no (first b.no.now))) (sym h) ∙ all_branches)

      pub yes_none : is_yes ≡ true → found ≡ first b.yes.now → is_some found ≡ false → v ≡ whole_value part (where_true is_no (first b.no.now)) → v ≡ of_branches
      yes_none h g none k =
          k ∙ ap (whole_value part)
          (sym (either_empty found (where_true is_no (first b.no.now)) none) ∙ ap (λ (o : Option ℤ). either_value o (where_true is_no (first b.no.now))) g
          ∙ ap (λ (i : Bool). either_value (where_true i (first b.yes.now)) (where_true is_no (first b.no.now))) (sym h) ∙ all_branches)

      pub no_before : is_no ≡ true → found ≡ first b.no.now → (before : Pending) → ((o : Option ℤ) → whole_value before o ≡ whole_value part (either_value o found))
          → v ≡ whole_value before (where_true is_yes (first b.yes.now)) → v ≡ of_branches
      no_before h g before same k =
          k ∙ same (where_true is_yes (first b.yes.now))
          ∙ ap (whole_value part)
          (ap (either_value (where_true is_yes (first b.yes.now))) g
          ∙ ap (λ (i : Bool). either_value (where_true is_yes (first b.yes.now)) (where_true i (first b.no.now))) (sym h) ∙ all_branches)

pub whole_starts : (test : ℕ → Bool) (values : List NamedValue) (p : Pending) (cases : List CaseValue) → AreWithinLimit values → p.choices.now ≡ cases → AreLinear cases
    → ((found : Option ℤ) → IfSome found IsTermValue → whole_value p found ≡ found) → whole_value p (first_value test (point_values values) p.choices.now) ≡ first_value test (point_values values) cases
whole_starts test values p cases within e linear h =
    ap (λ (xs : List CaseValue). whole_value p (first_value test (point_values values) xs)) e
    ∙ h (first_value test (point_values values) cases) (small_cases test values within cases linear)
