use Rattle.std.proofs.Common.{length}
use Rattle.branch_search.specs.code.Search.{AllStand}
use Rattle.branch_search.proofs.state.State.literals_waiting.Given as goal

abbrev pub invariant-places : goal.invariant-places
invariant-places l = AllStand l.self.entries.items (length l.self.entries.items) l.literals.items
