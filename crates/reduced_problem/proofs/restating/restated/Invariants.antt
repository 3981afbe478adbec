use Rattle.std.proofs.Common.{◌≡◌, ◌++◌, length, All}
use Rattle.reduced_problem.specs.code.Restating.{restated, Fits}
use Rattle.reduced_problem.proofs.restating.restated.Given as goal

abbrev pub invariant-steps : goal.invariant-steps
invariant-steps l = record {
  few : All (Fits l.base) l.reader;
  made : l.steps ++ restated l.origins l.clauses l.base l.reader ≡ restated l.origins l.clauses l.base l.fn.reader;
}

abbrev pub decreases-steps : goal.decreases-steps
decreases-steps l = length l.reader
