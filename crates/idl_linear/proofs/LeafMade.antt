-- A leaf that is made anew.
use Rattle.std.proofs.Common.{ap, sym, ◌∙◌, ◌≡◌, ◌≢◌, ℕ, List, [], ◌∷◌, ◌++◌, true, ℤ, pos, cond, Some, None, to_z, of_z, w64}
use Rattle.std.proofs.lemmas.List.{append_assoc}
use Rattle.idl_linear.specs.declared.summand.Summand.{Summand}
use Rattle.idl_linear.specs.Limits.{coefficient_limit}
use Rattle.idl_linear.specs.Linear.{put_before, is_within}
use Rattle.idl_linear.proofs.Coefficients.{summand}
use Rattle.idl_linear.proofs.Running.{found_is, stored, stored_zero, put_some, put_none}

pub made_within : (total other n : ℤ) → Some n ≡ cond (is_within coefficient_limit total) (Some total) None → total ≡ other → is_within coefficient_limit other ≡ true
made_within total other n f e =
    let found = found_is coefficient_limit total n f in
    ap (is_within coefficient_limit) (sym (found.0 ∙ e)) ∙ found.1

module _ (whole before behind : List Summand) (point : ℕ) (total n : ℤ) (f : Some n ≡ cond (is_within coefficient_limit total) (Some total) None)
    (e : whole ≡ before ++ put_before (record { point = point; coefficient = total }) behind) where
  pub made_with : of_z w64 n ≢ 0 → (first second last : List Summand) → first ≡ before → second ≡ first ++ record { point = point; coefficient = to_z w64 (of_z w64 n) } ∷ [] → last ≡ second ++ behind → last ≡ whole
  made_with now first second last g h i =
      let found = found_is coefficient_limit total n f in
      let is_stored : to_z w64 (of_z w64 n) ≡ total = stored total n f ∙ found.0 in
      let some_total : total ≢ pos 0 = λ z. now (ap (of_z w64) (found.0 ∙ z)) in
      i ∙ ap (λ (l : List Summand). l ++ behind) h
      ∙ ap (λ (l : List Summand). (l ++ summand point (to_z w64 (of_z w64 n)) ∷ []) ++ behind) g
      ∙ ap (λ (z : ℤ). (before ++ summand point z ∷ []) ++ behind) is_stored
      ∙ append_assoc before (summand point total ∷ []) behind
      ∙ ap (λ (l : List Summand). before ++ l) (sym (put_some point total behind some_total))
      ∙ sym e

  pub made_without : of_z w64 n ≡ 0 → (first last : List Summand) → first ≡ before → last ≡ first ++ behind → last ≡ whole
  made_without none first last g i =
      let zero_total : total ≡ pos 0 = sym (found_is coefficient_limit total n f).0 ∙ stored_zero total n f none in
      i ∙ ap (λ (l : List Summand). l ++ behind) g
      ∙ ap (λ (l : List Summand). before ++ l) (sym (put_none point total behind zero_total))
      ∙ sym e
