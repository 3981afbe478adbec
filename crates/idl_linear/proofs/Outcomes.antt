-- How a comparison ends.
use Rattle.std.proofs.Common.{refl, ap, sym, ◌∙◌, arith, ◌≡◌, ℕ, List, [], ◌++◌, map, Bool, true, false, cond, ℤ, pos, neg_ℤ, ◌+ℤ◌, ◌-ℤ◌, Option, Some, None, Result, Ok, Err, to_z, of_z, w64}
use Rattle.std.proofs.lemmas.Int.{ints}
use Rattle.std.proofs.lemmas.List.{append-nil}
use Rattle.idl_linear.specs.declared.summand.Summand.{Summand}
use Rattle.idl_linear.specs.declared.difference.Difference.{Difference}
use Rattle.idl_linear.specs.declared.difference.Ends.{Ends as Met}
use Rattle.idl_linear.specs.declared.error.DifferenceRefusal.{DifferenceRefusal}
use Rattle.idl_linear.specs.declared.error.DifferenceRefusal.TheVariants.{NotADifference, BoundTooLarge}
use Rattle.idl_linear.specs.Limits.{number_limit}
use Rattle.idl_linear.specs.Linear.{LinearValue, put_before, collected, sum_of, negative_summand, is_within}
use Rattle.idl_linear.specs.Forms.{IsLinear}
use Rattle.idl_linear.specs.Differences.{ends_of, difference_by, difference_of}
use Rattle.idl_linear.specs.code.Steps.{less, ends_with, ends_through}
use Rattle.idl_linear.proofs.Collecting.{all_above-ascending, collected-ascending}
use Rattle.idl_linear.proofs.Merging.{less-above, within_low, within_high}
use Rattle.idl_linear.proofs.Ends.{ends_from_start, ends_step}

by_less : (a b : LinearValue) → difference_of a b ≡ difference_by (ends_of (less a.summands b.summands)) (a.constant +ℤ (neg_ℤ b.constant +ℤ pos 0))
unfolding difference_of sum_of
by_less a b =
    ap (λ (l : List Summand). difference_by (ends_of (collected (a.summands ++ l))) (a.constant +ℤ (neg_ℤ b.constant +ℤ pos 0))) (append-nil (map negative_summand b.summands))

pub not_a_difference : (a b : LinearValue) → ends_of (less a.summands b.summands) ≡ None → difference_of a b ≡ Err NotADifference
not_a_difference a b e = by_less a b ∙ ap (λ (o : Option (ℕ × ℕ)). difference_by o (a.constant +ℤ (neg_ℤ b.constant +ℤ pos 0))) e

by_number : (p : ℕ × ℕ) (n : ℤ) → Result Difference DifferenceRefusal
by_number p n = cond (is_within number_limit n) (Ok (record { x = p.0; y = p.1; n = n })) (Err BoundTooLarge)

by_ends : (a b : LinearValue) (p : ℕ × ℕ) → ends_of (less a.summands b.summands) ≡ Some p → difference_of a b ≡ by_number p (b.constant -ℤ a.constant)
unfolding by_number
by_ends a b p e =
    let number : neg_ℤ (a.constant +ℤ (neg_ℤ b.constant +ℤ pos 0)) ≡ b.constant -ℤ a.constant = omega (arith, ints) in
    by_less a b ∙ ap (λ (o : Option (ℕ × ℕ)). difference_by o (a.constant +ℤ (neg_ℤ b.constant +ℤ pos 0))) e ∙ ap (by_number p) number

pub accepted_by : (p : ℕ × ℕ) (z n : ℤ) (b : Bool) → Some n ≡ cond b (Some z) None → cond {A = Result Difference DifferenceRefusal} b (Ok (record { x = p.0; y = p.1; n = z })) (Err BoundTooLarge) ≡ Ok (record { x = p.0; y = p.1; n = n })
accepted_by p z n true h =
    let same : z ≡ n = cc in
    ap (λ (k : ℤ). Ok (record { x = p.0; y = p.1; n = k })) same
accepted_by p z n false h = absurd cc

pub accepted : (a b : LinearValue) (p : ℕ × ℕ) (z n : ℤ) → ends_of (less a.summands b.summands) ≡ Some p → Some n ≡ cond (is_within number_limit z) (Some z) None → z ≡ b.constant -ℤ a.constant
    → difference_of a b ≡ Ok (record { x = p.0; y = p.1; n = n })
unfolding by_number
accepted a b p z n e h number = by_ends a b p e ∙ ap (by_number p) (sym number) ∙ accepted_by p z n (is_within number_limit z) h

pub refused_by : (p : ℕ × ℕ) (z : ℤ) (b : Bool) → None ≡ cond b (Some z) None → cond {A = Result Difference DifferenceRefusal} b (Ok (record { x = p.0; y = p.1; n = z })) (Err BoundTooLarge) ≡ Err BoundTooLarge
refused_by p z true h = absurd cc
refused_by p z false h = refl

pub too_large : (a b : LinearValue) (p : ℕ × ℕ) (z : ℤ) → ends_of (less a.summands b.summands) ≡ Some p → None ≡ cond (is_within number_limit z) (Some z) None → z ≡ b.constant -ℤ a.constant
    → difference_of a b ≡ Err BoundTooLarge
unfolding by_number
too_large a b p z e h number = by_ends a b p e ∙ ap (by_number p) (sym number) ∙ refused_by p z (is_within number_limit z) h

-- the loop's start, a refusal in it, and its end
pub starts : (a b : LinearValue) → IsLinear a → IsLinear b → ends_through (Some (record { x = 0; y = 0 })) (less a.summands b.summands) ≡ ends_of (less a.summands b.summands)
starts a b h k =
    ends_from_start (less a.summands b.summands) (less-above 0 a.summands b.summands (all_above-ascending 0 a.summands h.ascends) (all_above-ascending 0 b.summands k.ascends))

pub no_ends : (l : List Summand) (e : Met) (s : Summand) (rest whole : List Summand) → whole ≡ put_before s rest → None ≡ ends_with e s → ends_through (Some e) whole ≡ ends_of l → None ≡ ends_of l
no_ends l e s rest whole h f same = sym (ends_step e s rest whole None h f) ∙ same

-- less nothing
pub less_nothing : (a b : LinearValue) → IsLinear a → b.summands ≡ [] → less a.summands b.summands ≡ a.summands
less_nothing a b h e =
    ap (λ (l : List Summand). collected (a.summands ++ map negative_summand l)) e ∙ ap collected (append-nil a.summands) ∙ collected-ascending 0 a.summands h.ascends

pub ends_at : (l : List Summand) (e : Met) (whole : List Summand) → whole ≡ [] → ends_through (Some e) whole ≡ ends_of l → ends_of l ≡ Some (e.x, e.y)
ends_at l e whole h same = sym same ∙ ap (ends_through (Some e)) h

within_by : (limit : ℕ) (z n : ℤ) (b : Bool) → is_within limit z ≡ b → Some n ≡ cond b (Some z) None → is_within limit n ≡ true
within_by limit z n true e h =
    let same : n ≡ z = cc in
    ap (is_within limit) same ∙ e
within_by limit z n false e h = absurd cc

-- what is found within a limit
pub is_found_within : (limit : ℕ) (z n : ℤ) → Some n ≡ cond (is_within limit z) (Some z) None → is_within limit n ≡ true
is_found_within limit z n h = within_by limit z n (is_within limit z) refl h

pub number_fits : (z n : ℤ) → Some n ≡ cond (is_within number_limit z) (Some z) None → n ≡ to_z w64 (of_z w64 n)
number_fits z n h =
    let low = within_low number_limit n (is_found_within number_limit z n h) in
    let high = within_high number_limit n (is_found_within number_limit z n h) in
    omega (arith, ints, low, high)
