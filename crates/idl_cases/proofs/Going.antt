-- A case of each of some choices, gone to one after the other.
use Rattle.std.proofs.Common.{ap, sym, subst, arith, ◌∙◌, ◌≡◌, ◌<◌, ◌+◌, ◌*◌, ◌/◌, ◌%◌, ℕ, List, [], ◌∷◌, ◌++◌, length}
use Rattle.std.specs.Prelude.{Result, Ok, Err, OnOk}
use Rattle.std.specs.List.{AllByRecursion}
use Rattle.std.proofs.lemmas.Nat.{div-add-mod'}
use Rattle.idl_cases.specs.Guarded.{CaseValue}
use Rattle.idl_cases.specs.code.CaseSums.{added, added_all, added_each, case_at, signed_cases, signed_count, AreChoices}
use Rattle.idl_cases.specs.code.CasePlaces.{place_case, signed_lists}
use Rattle.idl_cases.specs.declared.places.Place.{Place}
use Rattle.idl_cases.specs.declared.summing.Signed.{Signed}
use Rattle.idl_cases.proofs.CaseLaws.{all-push, at-added, length-added}
use Rattle.idl_cases.proofs.Opening.{place_inside, place_outside}
use Rattle.idl_cases.proofs.SumSteps.{lists_more}

pub on_better : {A E : Type 0} (r : Result A E) (P Q : Type 0) → (P → Q) → OnOk r P → OnOk r Q
on_better (Ok a) P Q f h = f h
on_better (Err e) P Q f h = tt

pub went_first : (case new : CaseValue) (p q : Place) {whole : CaseValue} → new ≡ added case (place_case p) → added (added case (place_case p)) (place_case q) ≡ whole → added new (place_case q) ≡ whole
went_first case new p q e h = ap (λ (v : CaseValue). added v (place_case q)) e ∙ h

each_front : (xs : List (List CaseValue)) (ys : List CaseValue) → AllByRecursion AreChoices (xs ++ ys ∷ []) → AllByRecursion AreChoices xs × AreChoices ys
each_front [] ys h = (tt, h.0)
each_front (x ∷ xs) ys h =
    let rest = each_front xs ys h.1 in
    ((h.0, rest.0), rest.1)

module _ (choices others : List Signed) (last : Signed) (e : choices ≡ others ++ last ∷ []) (x : CaseValue) (h : AllByRecursion AreChoices (signed_lists choices)) where
  abbrev cases : List CaseValue
  cases = signed_cases last.is_negated last.choices.now

  lists : signed_lists choices ≡ signed_lists others ++ cases ∷ []
  lists = ap signed_lists e ∙ lists_more others last

  both : AllByRecursion AreChoices (signed_lists others) × AreChoices cases
  both = each_front (signed_lists others) cases (subst (λ (zs : List (List CaseValue)). AllByRecursion AreChoices zs) lists h)

  pub others_are : AllByRecursion AreChoices (signed_lists others)
  others_are = both.0

  whole : added_all (x ∷ []) (signed_lists choices) ≡ added_each (added_all (x ∷ []) (signed_lists others)) cases
  whole = ap (λ (zs : List (List CaseValue)). added_all (x ∷ []) zs) lists ∙ all-push (signed_lists others) (x ∷ []) cases

  pub place_before : (place count : ℕ) → count ≡ length last.choices.now → place < length (added_all (x ∷ []) (signed_lists choices)) → place / count < length (added_all (x ∷ []) (signed_lists others))
  place_before place count is lt =
      let all = added_all (x ∷ []) (signed_lists others) in
      let long : length (added_all (x ∷ []) (signed_lists choices)) ≡ length all * count =
      ap (length {A = CaseValue}) whole ∙ length-added all cases ∙ ap (λ (n : ℕ). length all * n) (signed_count last.is_negated last.choices.now ∙ sym is) in
      place_outside place (length all) count (omega (arith, lt, long))

  pub place_last : (place count : ℕ) → count ≡ length last.choices.now → 1 < length last.choices.now → place % count < length last.choices.now
  place_last place count is many =
      let inside = place_inside place count (omega (arith, is, many)) in
      omega (arith, inside, is)

  pub gone : (place count : ℕ) → count ≡ length last.choices.now → 1 < length last.choices.now → place < length (added_all (x ∷ []) (signed_lists choices))
      → added (case_at (added_all (x ∷ []) (signed_lists others)) (place / count)) (case_at cases (place % count)) ≡ case_at (added_all (x ∷ []) (signed_lists choices)) place
  gone place count is many lt =
      let all = added_all (x ∷ []) (signed_lists others) in
      let wide : count ≡ length cases = is ∙ sym (signed_count last.is_negated last.choices.now) in
      let inside = place_last place count is many in
      let low : place % count < length cases = omega (arith, inside, is, wide) in
      let split : place ≡ (place / count) * length cases + place % count = sym (div-add-mod' place count) ∙ ap (λ (m : ℕ). (place / count) * m + place % count) wide in
      sym (ap (λ (cs : List CaseValue). case_at cs place) whole ∙ at-added all cases (place / count) (place % count) place (place_before place count is lt) low split)
