use Rattle.std.proofs.Common.{◌≡◌, List, ◌++◌, length, All}
use Rattle.refute_tree.specs.declared.step.Step.{Step}
use Rattle.lemma_shelf.specs.code.Tables.{StepIsClosed}
use Rattle.lemma_shelf.specs.code.Walks.{places}
use Rattle.lemma_shelf.specs.code.WrittenOut.{ArePlaced}
use Rattle.lemma_shelf.proofs.lowering.lowered_steps.Given as goal

abbrev pub invariant-steps : goal.invariant-steps
invariant-steps l = record {
  closed : All (StepIsClosed (places l.present) l.before) l.reader;
  done : (done : List Step) × (l.fn.reader ≡ done ++ l.reader) × ArePlaced (places l.present) l.before done l.steps;
}

abbrev pub decreases-steps : goal.decreases-steps
decreases-steps l = length l.reader
