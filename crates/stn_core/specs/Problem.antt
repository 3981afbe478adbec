use Rattle.std.specs.Prelude.{List, All, Contains, ℤ}
use Rattle.stn_core.specs.declared.literal.Literal.{Literal}
use Rattle.stn_core.specs.Literal.{Holds}

-- some literal of the clause holds (Disjunctive Temporal Problem: Stergiou, Koubarakis 2000)
abbrev pub ClauseHolds : List ℤ → List Literal → Type 0
ClauseHolds values clause = (l : Literal) × Contains clause l × Holds values l

-- all the clauses hold
abbrev pub ProblemHolds : List ℤ → List (List Literal) → Type 0
ProblemHolds values clauses = All (ClauseHolds values) clauses
