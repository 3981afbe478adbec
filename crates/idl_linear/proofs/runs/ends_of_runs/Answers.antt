use Rattle.std.proofs.Common.{ap, ◌∙◌, arith, ◌≡◌, ℤ, to_z, of_z}
use Rattle.std.specs.Int.{w128}
use Rattle.std.proofs.lemmas.Int.{ints}
use Rattle.idl_linear.specs.code.Steps.{ends_with}
use Rattle.idl_linear.proofs.EndingRuns.{ending_starts, ending_stops, ending_goes, ending_ends}
use Rattle.idl_linear.proofs.runs.ends_of_runs.Goals as goal

pub loop-start-init : goal.loop-start-init
loop-start-init c = ending_starts c.args.summands.now c.requires.each c.requires.rises

pub loop-start-preserved : goal.loop-start-preserved
loop-start-preserved c =
    let total : to_z w128 (of_z w128 c.first_run-run.result.sum) ≡ c.first_run-run.result.sum = omega (arith, ints) in
    ending_goes c.args.summands.now c.loop-start.ends c.loop-start.start c.first_run-run.result.point c.first_run-run.result.len c.first_run-run.result.sum c.loop-start.invariant c.first_run-run.ensures.some c.first_run-run.ensures.len c.first_run-run.ensures.sum
    c.with_any.result (c.with_any.ensures ∙ ap (λ (z : ℤ). ends_with c.loop-start.ends (record { point = c.first_run-run.result.point; coefficient = z })) total) c.in_ok-ends.ends c.in_ok-ends.was
