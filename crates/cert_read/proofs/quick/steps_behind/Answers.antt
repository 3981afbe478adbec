use Rattle.std.proofs.Common.{◌≡◌, []}
use Rattle.cert_text.specs.Form.{step_sexpr}
use Rattle.cert_read.specs.code.Quick.{StepFits}
use Rattle.cert_read.proofs.QuickTexts.{adds_more, adds_all}
use Rattle.cert_read.proofs.quick.steps_behind.Goals as goal

pub loop-steps-preserved : goal.loop-steps-preserved
loop-steps-preserved c =
    let next = rw c.in-Some.is at c.in_ok-behind.ensures in
    record { adds = adds_more step_sexpr (StepFits c.args.version) [] c.loop-steps.steps c.next_step.new.steps c.args.bytes.now c.loop-steps.rest.now c.in-Some.behind.now next.0 c.loop-steps.invariant.adds next.1 next.2 next.3 }

pub returns-in-Some-behind_byte : goal.returns-in-Some-behind_byte
returns-in-Some-behind_byte c =
    let same : c.next_step.new.steps ≡ c.loop-steps.steps = rw c.in_default.is at c.in_ok-behind.ensures in
    rw same (adds_all step_sexpr (StepFits c.args.version) [] c.loop-steps.steps c.args.bytes.now c.loop-steps.rest.now c.in-Some-behind_byte.behind.now c.loop-steps.invariant.adds c.in-Some-behind_byte.ensures)
