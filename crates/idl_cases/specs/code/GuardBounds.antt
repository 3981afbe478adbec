-- How far the guards of cases reach. These are words of the code, and no part of the meaning.
use Rattle.std.specs.Prelude.{ℕ, ◌<◌, List}
use Rattle.std.specs.List.{AllByRecursion}
use Rattle.idl_cases.specs.Guarded.{CaseValue}

-- all guards are among the first nodes, so many
abbrev pub IsCaseBelow : ℕ → CaseValue → Type 0
IsCaseBelow count case = AllByRecursion (λ g. g < count) case.guards

abbrev pub AreGuardsBelow : ℕ → List CaseValue → Type 0
AreGuardsBelow count cases = AllByRecursion (λ (case : CaseValue). IsCaseBelow count case) cases
