use Rattle.std.proofs.Common.{length, []}
use Rattle.cert_text.specs.Form.{step_sexpr}
use Rattle.cert_read.specs.code.Quick.{StepFits, Adds}
use Rattle.cert_read.proofs.quick.steps_behind.Given as goal

abbrev pub invariant-loop-steps : goal.invariant-loop-steps
invariant-loop-steps l = record { adds : Adds step_sexpr (StepFits l.version) [] l.steps l.bytes l.rest }

abbrev pub decreases-loop-steps : goal.decreases-loop-steps
decreases-loop-steps l = length l.rest
