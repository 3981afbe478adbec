use Rattle.std.proofs.Common.{All}
use Rattle.branch_search.specs.code.Hits.{IsOnPath}
use Rattle.branch_search.proofs.distances.path_of.Given as goal

abbrev pub invariant-edges : goal.invariant-edges
invariant-edges l = All (IsOnPath l.entries l.fn.denied) l.path.items
