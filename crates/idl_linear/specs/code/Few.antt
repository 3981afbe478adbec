-- Of the code and not of the meaning: the summands of two terms together.
use Rattle.std.specs.Prelude.{◌≡◌, List, ◌++◌, Bool, if◌then◌else◌}
use Rattle.idl_linear.specs.declared.summand.Summand.{Summand}
use Rattle.idl_linear.specs.Linear.{LinearValue, collected, negative_of}
use Rattle.idl_linear.specs.code.Steps.{IsRest}
use Rattle.idl_linear.specs.code.Trees.{signed}

-- a term, or its negative
abbrev pub signed_term : Bool → LinearValue → LinearValue
signed_term negated l = if negated then negative_of l else l

-- collected, they are the first ones with the second ones or their negatives
pub record AreBoth (negated : Bool) (first second both : List Summand) : Type 0 where
  pub same : both ≡ collected (first ++ signed negated second)
  pub rest : IsRest both
