use Rattle.std.specs.Prelude.{ℕ, ◌++◌, List, take, drop}
use Rattle.stn_core.specs.declared.literal.Literal.{Literal}
use Rattle.stn_core.specs.Cycle.{IsNegativeCycle}

-- a negative cycle is one from each of its literals on
abbrev pub RotationLaw : Type 0
RotationLaw = (cycle : List Literal) (k : ℕ) → IsNegativeCycle cycle → IsNegativeCycle (drop k cycle ++ take k cycle)
