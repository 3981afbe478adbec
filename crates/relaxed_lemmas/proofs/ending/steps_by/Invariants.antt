use Rattle.relaxed_lemmas.specs.code.Closing.{NamesNone}
use Rattle.relaxed_lemmas.proofs.ending.steps_by.Given as goal

abbrev pub invariant-loop-literal : goal.invariant-loop-literal
invariant-loop-literal l = NamesNone l.steps
