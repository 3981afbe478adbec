use Rattle.stn_core.specs.declared.problem.Problem.{Problem}
use Rattle.kept_search.specs.Kept.{IsSearchOf}
use Rattle.kept_search.proofs.kept.KeptSearch.under.Given as goal

abbrev pub invariant-loop-turn : goal.invariant-loop-turn
invariant-loop-turn l = IsSearchOf l.problem l.self
