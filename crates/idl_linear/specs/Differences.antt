-- Two linear terms that are compared, as a difference of time points that is compared with a number.
use Rattle.std.specs.Prelude.{ℕ, List, [], ◌∷◌, ◌&&◌, if◌then◌else◌, Option, Some, None, Result, Ok, Err, ℤ, pos, negsuc, neg_ℤ}
use Rattle.std.specs.Ordering.{int_eq}
use Rattle.idl_linear.specs.declared.difference.Difference.{Difference}
use Rattle.idl_linear.specs.declared.error.DifferenceRefusal.{DifferenceRefusal}
use Rattle.idl_linear.specs.declared.error.DifferenceRefusal.TheVariants.{NotADifference, BoundTooLarge}
use Rattle.idl_linear.specs.declared.summand.Summand.{Summand}
use Rattle.idl_linear.specs.Limits.{number_limit}
use Rattle.idl_linear.specs.Linear.{LinearValue, sum_of, negative_of, is_within}

-- at most one name with coefficient 1, at most one with -1, and nothing else; a missing one is the zero point
abbrev pub ends_of : List Summand → Option (ℕ × ℕ)
ends_of [] = Some (0, 0)
ends_of (s ∷ []) =
    if int_eq s.coefficient (pos 1) then Some (s.point, 0)
    else (if int_eq s.coefficient (negsuc 0) then Some (0, s.point) else None)
ends_of (s ∷ t ∷ []) =
    if int_eq s.coefficient (pos 1) && int_eq t.coefficient (negsuc 0) then Some (s.point, t.point)
    else (if int_eq s.coefficient (negsuc 0) && int_eq t.coefficient (pos 1) then Some (t.point, s.point) else None)
ends_of _ = None

abbrev pub difference_by : Option (ℕ × ℕ) → ℤ → Result Difference DifferenceRefusal
difference_by None constant = Err NotADifference
difference_by (Some p) constant = if is_within number_limit (neg_ℤ constant) then Ok (record { x = p.0; y = p.1; n = neg_ℤ constant }) else Err BoundTooLarge

abbrev pub difference_in : LinearValue → Result Difference DifferenceRefusal
difference_in l = difference_by (ends_of l.summands) l.constant

-- a compared with b is a - b compared with 0
unfoldable pub difference_of : LinearValue → LinearValue → Result Difference DifferenceRefusal
difference_of a b = difference_in (sum_of (a ∷ negative_of b ∷ []))
