use Rattle.std.proofs.Common.{length, ◌-◌, All}
use Rattle.lemma_shelf.specs.code.Walks.{places}
use Rattle.lemma_shelf.specs.code.WrittenOut.{RestsOn}
use Rattle.lemma_shelf.proofs.Walking.{IsWalking}
use Rattle.lemma_shelf.proofs.walk.reach.Given as goal

abbrev pub invariant-walk : goal.invariant-walk
invariant-walk l = record {
  walking : IsWalking l.table.book l.table.lemmas.items l.present.clauses.now (places l.present) l.root l.reached l.at;
  rests : All (RestsOn l.table.lemmas.items l.root) l.fn.reached → All (RestsOn l.table.lemmas.items l.root) l.reached;
}

abbrev pub decreases-walk : goal.decreases-walk
decreases-walk l = length l.table.lemmas.items - l.at
