use Rattle.std.proofs.Common.{◌≡◌, ◌++◌, length, map, All}
use Rattle.refute_tree.specs.Batches.{RefersBelow}
use Rattle.carried_lemmas.specs.code.Carrying.{step_by}
use Rattle.carried_lemmas.proofs.carrying.renumbered.Given as goal

abbrev pub invariant-steps : goal.invariant-steps
invariant-steps l = record {
  below : All (RefersBelow (length l.places)) l.reader;
  made : l.steps ++ map (step_by l.numbers l.places) l.reader ≡ map (step_by l.numbers l.places) l.fn.reader;
}

abbrev pub decreases-steps : goal.decreases-steps
decreases-steps l = length l.reader
