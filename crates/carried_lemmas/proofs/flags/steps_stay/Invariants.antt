use Rattle.std.proofs.Common.{◌≡◌, length}
use Rattle.std.specs.List.{list_all}
use Rattle.carried_lemmas.specs.code.Carrying.{step_stays}
use Rattle.carried_lemmas.proofs.flags.steps_stay.Given as goal

abbrev pub invariant-steps : goal.invariant-steps
invariant-steps l = list_all (step_stays l.points l.numbers l.kept) l.reader ≡ list_all (step_stays l.points l.numbers l.kept) l.fn.reader

abbrev pub decreases-steps : goal.decreases-steps
decreases-steps l = length l.reader
