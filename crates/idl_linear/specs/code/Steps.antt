-- Of the code and not of the meaning: contracts of private functions alone cite it.
use Rattle.std.specs.Prelude.{ℕ, ◌≤◌, ◌==◌, List, [], ◌∷◌, ◌++◌, map, Bool, false, ◌≡◌, ◌&&◌, if◌then◌else◌, Option, Some, None, pos, negsuc}
use Rattle.std.specs.List.{AllByRecursion}
use Rattle.std.specs.Ordering.{int_eq}
use Rattle.idl_linear.specs.declared.summand.Summand.{Summand}
use Rattle.idl_linear.specs.declared.difference.Ends.{Ends}
use Rattle.idl_linear.specs.Linear.{collected, negative_summand}
use Rattle.idl_linear.specs.Forms.{AscendAbove, IsSummand}
use Rattle.idl_linear.specs.declared.error.LinearError.{LinearError}
use Rattle.idl_linear.specs.declared.error.LinearError.TheVariants as error

-- time points don't fall, from this one on
abbrev pub RiseFrom : ℕ → List Summand → Type 0
RiseFrom least [] = Unit {0}
RiseFrom least (s ∷ rest) = (least ≤ s.point) × RiseFrom s.point rest

-- a linear term's summands, or what is left of them
pub record IsRest (summands : List Summand) : Type 0 where
  pub ascends : AscendAbove 0 summands
  pub each : AllByRecursion IsSummand summands

-- what an error says of a test whether the limits hold; want of memory says nothing
abbrev pub Refuses : LinearError → Bool → Type 0
Refuses error.OutOfMemory limited = Unit {0}
Refuses error.BoundTooLarge limited = limited ≡ false

-- the first list less the second
abbrev pub less : List Summand → List Summand → List Summand
less left right = collected (left ++ map negative_summand right)

-- one more summand among a difference's ends
abbrev pub ends_with : Ends → Summand → Option Ends
ends_with ends s =
    if int_eq s.coefficient (pos 0) then Some ends
    else (if int_eq s.coefficient (pos 1) && ends.x == 0 then Some (record { x = s.point; y = ends.y })
    else (if int_eq s.coefficient (negsuc 0) && ends.y == 0 then Some (record { x = ends.x; y = s.point })
    else None))

abbrev pub ends_through : Option Ends → List Summand → Option (ℕ × ℕ)
ends_through None summands = None
ends_through (Some ends) [] = Some (ends.x, ends.y)
ends_through (Some ends) (s ∷ rest) = ends_through (ends_with ends s) rest
