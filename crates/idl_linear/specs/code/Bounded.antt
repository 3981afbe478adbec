-- Of the code and not of the meaning: linear terms that needn't be within the limits.
use Rattle.std.specs.Prelude.{◌≡◌, ◌<◌, ℕ, true}
use Rattle.std.specs.List.{AllByRecursion}
use Rattle.idl_linear.specs.declared.summand.Summand.{Summand}
use Rattle.idl_linear.specs.Forms.{AscendAbove}
use Rattle.idl_linear.specs.Limits.{points_limit}
use Rattle.idl_linear.specs.Linear.{LinearValue, is_within}
use Rattle.idl_linear.specs.code.Trees.{AllWithin}

-- collected, over names' time points
pub record IsOver (l : LinearValue) : Type 0 where
  pub ascends : AscendAbove 0 l.summands
  pub points : AllByRecursion (λ (s : Summand). s.point < points_limit) l.summands

-- and its constant and its coefficients are not beyond these in their absolute values
pub record IsBounded (m n : ℕ) (l : LinearValue) : Type 0 where
  pub over : IsOver l
  pub constant : is_within m l.constant ≡ true
  pub coefficients : AllWithin n l.summands
