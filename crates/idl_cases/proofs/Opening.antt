-- A case of choices, opened step by step.
use Rattle.std.proofs.Common.{refl, ap, sym, subst, arith, inl, inr, ◌∙◌, ◌≡◌, ◌<◌, ◌≤◌, ◌+◌, ◌*◌, ◌/◌, ◌%◌, ℕ, zero, suc, List, [], ◌∷◌, ◌++◌, length, map, get_or, Bool}
use Rattle.std.specs.Prelude.{Result, Ok, Err, IfOk}
use Rattle.std.proofs.lemmas.Bool.{cases_lt}
use Rattle.std.proofs.lemmas.Nat.{div-add-mod'}
use Rattle.std.proofs.Math.Nat.{mul-le-mul_right, mod-lt}
use mathlib.Core.Bool.{not, beq}
use Rattle.idl_linear.specs.Linear.{LinearValue}
use Rattle.idl_linear.specs.Forms.{IsLinear}
use Rattle.idl_linear.specs.code.Bounded.{IsOver}
use Rattle.idl_linear.proofs.SumLaws.{over_linear, over_pair}
use Rattle.idl_cases.specs.Guarded.{CaseValue, branched}
use Rattle.idl_cases.specs.code.Bounded.{AreOver}
use Rattle.idl_cases.specs.code.CaseSums.{added, added_each, case_at, moved, pair_sum, signed_cases, signed_count, signed_linear}
use Rattle.idl_cases.proofs.CaseBounds.{over_signed}
use Rattle.idl_cases.proofs.CaseLaws.{added_assoc, added_guarded, added_moved, at-added, at-first, at-map, at-over, at-second, at-signed, length-added, length-branched, over_signed_linear, signed_added, signed_branched, signed_moved, signed_twice}

pub ok_better : {A E : Type 0} (r : Result A E) (P Q : A → Type 0) → ((a : A) → P a → Q a) → IfOk r P → IfOk r Q
ok_better (Ok a) P Q f h = f a h
ok_better (Err e) P Q f h = tt

-- a linear term more, and guards more
pub over_pushed : (a new : CaseValue) (s : Bool) (l : LinearValue) → new ≡ record { guards = a.guards; linear = pair_sum a.linear (signed_linear s l) } → IsOver a.linear → IsLinear l → IsOver new.linear
over_pushed a new s l e h k = subst (λ (v : CaseValue). IsOver v.linear) (sym e) (over_pair a.linear (signed_linear s l) h (over_signed_linear s l (over_linear l k)))

pub enter_moved : (a new : CaseValue) (s : Bool) (by : LinearValue) (cases choices : List CaseValue) (k : ℕ) → cases ≡ map (moved by) choices
    → new ≡ record { guards = a.guards; linear = pair_sum a.linear (signed_linear s by) } → IsOver a.linear → IsOver by → AreOver choices → k < length choices
    → added new (case_at (signed_cases s choices) k) ≡ added a (case_at (signed_cases s cases) k)
enter_moved a new s by cases choices k e f over by_over choices_over lt =
    let long = signed_count s choices in
    let x = case_at (signed_cases s choices) k in
    let x_over = at-over (signed_cases s choices) k (over_signed s choices choices_over) (omega (arith, long, lt)) in
    ap (λ (v : CaseValue). added v x) f
    ∙ added_moved a x (signed_linear s by) over (over_signed_linear s by by_over) x_over
    ∙ ap (added a) (sym (at-map (moved (signed_linear s by)) (signed_cases s choices) k (omega (arith, long, lt))))
    ∙ ap (λ (cs : List CaseValue). added a (case_at cs k)) (sym (ap (signed_cases s) e ∙ signed_moved s by choices by_over choices_over))

module _ (a mid : CaseValue) (s n : Bool) (cs xs ys : List CaseValue) (g d : ℕ) (e : cs ≡ signed_cases n (branched g d xs ys)) where
  turned : signed_cases s cs ≡ branched g d (signed_cases (not (beq s n)) xs) (signed_cases (not (beq s n)) ys)
  turned = ap (signed_cases s) e ∙ signed_twice s n (branched g d xs ys) ∙ signed_branched (not (beq s n)) g d xs ys

  pub branch_lengths : length cs ≡ length xs + length ys
  branch_lengths = ap (length {A = CaseValue}) e ∙ signed_count n (branched g d xs ys) ∙ length-branched g d xs ys

  pub open_first : (k : ℕ) → mid ≡ record { guards = a.guards ++ g ∷ []; linear = a.linear } → k < length xs → added mid (case_at (signed_cases (not (beq s n)) xs) k) ≡ added a (case_at (signed_cases s cs) k)
  open_first k f lt =
      let u = not (beq s n) in
      let long = signed_count u xs in
      ap (λ (v : CaseValue). added v (case_at (signed_cases u xs) k)) f
      ∙ added_guarded a (case_at (signed_cases u xs) k) g
      ∙ ap (added a) (sym (at-first g d (signed_cases u xs) (signed_cases u ys) k (omega (arith, long, lt))))
      ∙ ap (λ (zs : List CaseValue). added a (case_at zs k)) (sym turned)

  pub open_second : (k j : ℕ) → mid ≡ record { guards = a.guards ++ d ∷ []; linear = a.linear } → k ≡ length xs + j → j < length ys → added mid (case_at (signed_cases (not (beq s n)) ys) j) ≡ added a (case_at (signed_cases s cs) k)
  open_second k j f h lt =
      let u = not (beq s n) in
      let first = signed_count u xs in
      let long = signed_count u ys in
      ap (λ (v : CaseValue). added v (case_at (signed_cases u ys) j)) f
      ∙ added_guarded a (case_at (signed_cases u ys) j) d
      ∙ ap (added a) (sym (at-second g d (signed_cases u xs) (signed_cases u ys) j k (omega (arith, first, h)) (omega (arith, long, lt))))
      ∙ ap (λ (zs : List CaseValue). added a (case_at zs k)) (sym turned)

pub place_outside : (k m n : ℕ) → k < m * n → k / n < m
place_outside k m n lt = elim (cases_lt (k / n) m) [
  | inl less ↦ less
  | inr more ↦
      let whole = div-add-mod' k n in
      let times : m * n ≤ (k / n) * n = mul-le-mul_right n more in
      absurd (omega (arith, whole, times, lt))
]

pub place_inside : (k n : ℕ) → 0 < n → k % n < n
place_inside k n some = mod-lt k some

module _ (a : CaseValue) (s n : Bool) (cs xs ys : List CaseValue) (e : cs ≡ signed_cases n (added_each xs ys)) (over : IsOver a.linear) (first : AreOver xs) (second : AreOver ys) where
  sum_turned : signed_cases s cs ≡ added_each (signed_cases (not (beq s n)) xs) (signed_cases (not (beq s n)) ys)
  sum_turned = ap (signed_cases s) e ∙ signed_twice s n (added_each xs ys) ∙ signed_added (not (beq s n)) xs ys first second

  pub sum_lengths : length cs ≡ length xs * length ys
  sum_lengths = ap (length {A = CaseValue}) e ∙ signed_count n (added_each xs ys) ∙ length-added xs ys

  pub open_sum : (k count : ℕ) → count ≡ length ys → 0 < length ys → k < length cs
      → added (added a (case_at (signed_cases (not (beq s n)) xs) (k / count))) (case_at (signed_cases (not (beq s n)) ys) (k % count)) ≡ added a (case_at (signed_cases s cs) k)
  open_sum k count is some lt =
      let u = not (beq s n) in
      let long = signed_count u xs in
      let wide = signed_count u ys in
      let few : count ≡ length (signed_cases u ys) = is ∙ sym wide in
      let limit : k < length xs * count = omega (arith, lt, sum_lengths ∙ ap (λ (m : ℕ). length xs * m) (sym is)) in
      let outside : k / count < length (signed_cases u xs) = omega (arith, place_outside k (length xs) count limit, long) in
      let inside : k % count < length (signed_cases u ys) = omega (arith, place_inside k count (omega (arith, is, some)), few) in
      let split : k ≡ (k / count) * length (signed_cases u ys) + k % count = sym (div-add-mod' k count) ∙ ap (λ (m : ℕ). (k / count) * m + k % count) few in
      added_assoc a (case_at (signed_cases u xs) (k / count)) (case_at (signed_cases u ys) (k % count)) over (at-over (signed_cases u xs) (k / count) (over_signed u xs first) outside) (at-over (signed_cases u ys) (k % count) (over_signed u ys second) inside)
      ∙ ap (added a) (sym (at-added (signed_cases u xs) (signed_cases u ys) (k / count) (k % count) k outside inside split))
      ∙ ap (λ (zs : List CaseValue). added a (case_at zs k)) (sym sum_turned)

any_default : (xs : List CaseValue) (k : ℕ) (d : CaseValue) → k < length xs → get_or xs k d ≡ case_at xs k
any_default [] k d lt = absurd (omega arith)
any_default (x ∷ xs) zero d lt = refl
any_default (x ∷ xs) (suc k) d lt = any_default xs k d (omega arith)

pub open_listed : (a mid new : CaseValue) (s n : Bool) (cs listed : List CaseValue) (k : ℕ) (x : CaseValue) → cs ≡ signed_cases n listed → k < length cs → x ≡ get_or listed k x
    → mid ≡ record { guards = a.guards ++ x.guards; linear = a.linear } → new ≡ record { guards = mid.guards; linear = pair_sum mid.linear (signed_linear (not (beq s n)) x.linear) } → new ≡ added a (case_at (signed_cases s cs) k)
open_listed a mid new s n cs listed k x e lt is f h =
    let u = not (beq s n) in
    let long : length cs ≡ length listed = ap (length {A = CaseValue}) e ∙ signed_count n listed in
    let here : k < length listed = omega (arith, long, lt) in
    let same : x ≡ case_at listed k = is ∙ any_default listed k x here in
    let turned : signed_cases s cs ≡ signed_cases u listed = ap (signed_cases s) e ∙ signed_twice s n listed in
    h
    ∙ ap (λ (v : CaseValue). record { guards = v.guards; linear = pair_sum v.linear (signed_linear u x.linear) }) f
    ∙ ap (λ (v : CaseValue). record { guards = a.guards ++ v.guards; linear = pair_sum a.linear (signed_linear u v.linear) }) same
    ∙ ap (added a) (sym (at-signed u listed k here))
    ∙ ap (λ (zs : List CaseValue). added a (case_at zs k)) (sym turned)
