-- The implication graph of a search: the literals that it assumes, each with its reason, and the clauses that
-- reasons name.
use Rattle.std.specs.Prelude.{ℕ, List}
use Rattle.stn_core.specs.declared.literal.Literal.{Literal}
use Rattle.stn_core.specs.declared.problem.Problem.{Problem}
use Rattle.conflict_analysis.specs.declared.entry.Entry.{Entry}

-- of how many points the problem is, its clauses and the lemmas', and the trail
pub record Graph : Type 0 where
  pub points : ℕ
  pub inputs : List (List Literal)
  pub lemmas : List (List Literal)
  pub trail : List Entry

abbrev pub graph_of : Problem → List (List Literal) → List Entry → Graph
graph_of problem lemmas trail =
    record { points = problem.points; inputs = problem.clauses; lemmas = lemmas; trail = trail }
