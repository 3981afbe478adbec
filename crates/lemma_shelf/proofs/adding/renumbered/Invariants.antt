use Rattle.std.proofs.Common.{◌≡◌, List, ◌++◌, length, All}
use Rattle.refute_tree.specs.declared.step.Step.{Step}
use Rattle.lemma_shelf.specs.code.Tables.{IsKnownStep, steps_held, AreRenumbered, BeginsAs}
use Rattle.lemma_shelf.proofs.adding.renumbered.Given as goal

abbrev pub invariant-steps : goal.invariant-steps
invariant-steps l = record {
  known : All (IsKnownStep (length l.problem.clauses) (length l.numbers)) l.reader;
  longer : BeginsAs l.fn.book l.book;
  done : (done : List Step) × (l.fn.reader ≡ done ++ l.reader) × AreRenumbered l.problem.clauses l.numbers l.book (steps_held l.trees done) l.steps;
}

abbrev pub decreases-steps : goal.decreases-steps
decreases-steps l = length l.reader
