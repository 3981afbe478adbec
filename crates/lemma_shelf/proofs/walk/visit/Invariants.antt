use Rattle.std.proofs.Common.{◌≡◌, length}
use Rattle.std.specs.List.{list_all}
use Rattle.lemma_shelf.specs.code.Tables.{step_passes, with_all_cited}
use Rattle.lemma_shelf.specs.code.Walks.{places}
use Rattle.lemma_shelf.proofs.walk.visit.Given as goal

abbrev pub invariant-steps : goal.invariant-steps
invariant-steps l = record {
  passes : list_all (step_passes (places l.present)) l.reader ≡ list_all (step_passes (places l.present)) l.fn.reader;
  reached : with_all_cited l.reached l.reader ≡ with_all_cited l.fn.reached l.fn.reader;
}

abbrev pub decreases-steps : goal.decreases-steps
decreases-steps l = length l.reader
