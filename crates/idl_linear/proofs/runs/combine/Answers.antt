use Rattle.std.proofs.Common.{arith, ◌≡◌, to_z, of_z}
use Rattle.std.specs.Int.{w128}
use Rattle.std.proofs.lemmas.Int.{ints}
use Rattle.idl_linear.proofs.Running.{step_with, step_without}
use Rattle.idl_linear.proofs.runs.combine.Goals as goal
use Rattle.idl_linear.proofs.runs.combine.Goals.{then-coefficient-ne0, else-coefficient-ne0}

pub loop-start-preserved : goal.loop-start-preserved
loop-start-preserved c =
    let total : to_z w128 (of_z w128 c.first_run-run.result.sum) ≡ c.first_run-run.result.sum = omega (arith, ints) in
    let found = rw total at c.in-Some.ensures in
    elim c.if-coefficient-ne0.branch [
      | then-coefficient-ne0 w ↦ rw (w.summands-is, w.kept-is)
          (step_with _ _ _ _ _ c.first_run-run.result.point c.first_run-run.result.len c.first_run-run.result.sum c.loop-start.invariant c.deref.ensures.value c.first_run-run.ensures.some c.first_run-run.ensures.len c.first_run-run.ensures.sum _ found w.if-coefficient-ne0.true)
      | else-coefficient-ne0 w ↦ rw (w.summands-is, w.kept-is)
          (step_without _ _ _ _ _ c.first_run-run.result.point c.first_run-run.result.len c.first_run-run.result.sum c.loop-start.invariant c.deref.ensures.value c.first_run-run.ensures.some c.first_run-run.ensures.len c.first_run-run.ensures.sum _ found w.if-coefficient-ne0.false)
    ]
