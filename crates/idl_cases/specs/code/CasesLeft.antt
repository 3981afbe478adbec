-- What is left of a walk over the cases of one term, or of two. These are words of the code, and no part of the meaning.
use Rattle.std.specs.Prelude.{◌≡◌, ◌<◌, ℕ, length, IsTrue}
use Rattle.idl_cases.specs.code.GuardBounds.{AreGuardsBelow}
use Rattle.idl_cases.specs.declared.same.Compared.{Compared}
use Rattle.idl_cases.specs.declared.same.Compared.TheVariants as compared
use Rattle.idl_cases.specs.declared.same.Mixing.{Mixing}
use Rattle.idl_cases.specs.declared.same.Mixing.TheVariants as mixed

-- what is told of the whole is so, if it is so of what is left, whose guards are among the first nodes, so many; and there are fewer cases left than this
abbrev pub IsMixed : ℕ → Type 0 → ℕ → Mixing → Type 0
IsMixed limit told count (mixed.Whole all) = told
IsMixed limit told count (mixed.Part all part) = (AreGuardsBelow count part.now → told) × (length part.now < limit)

-- the same of two terms that are compared
abbrev pub IsCompared : ℕ → Type 0 → Compared → Type 0
IsCompared limit told (compared.Whole same) = IsTrue same → told
IsCompared limit told (compared.Part part beside) = (part.now ≡ beside.now → told) × (length part.now < limit)
