use Rattle.std.proofs.Common.{arith, subst, ◌≡◌, ◌+◌, ℤ, ◌+ℤ◌, to_z, of_z, get_or}
use Rattle.std.specs.Int.{w128}
use Rattle.std.proofs.lemmas.Int.{ints}
use Rattle.idl_linear.proofs.Running.{nothing, IsRun, next_coefficient, run_starts, run_goes_on, run_ends_before, first_run_before}
use Rattle.idl_linear.proofs.runs.first_run.Goals as goal

pub loop-len-init : goal.loop-len-init
loop-len-init c = run_starts c.args.summands.now c.requires.some c.requires.rises c.requires.each

pub loop-len-preserved : goal.loop-len-preserved
loop-len-preserved c =
    let x = get_or c.args.summands.now c.loop-len.len nothing in
    let sum = to_z w128 c.loop-len.sum-bits in
    let next = next_coefficient _ _ _ _ c.loop-len.invariant c.loop-len-test.true in
    let step = run_goes_on _ _ _ _ c.loop-len.invariant c.loop-len-test.true c.if-summands-len.true in
    let number : sum +ℤ x.coefficient ≡ to_z w128 (of_z w128 (sum +ℤ to_z w128 (of_z w128 c.from-sum.result))) =
    omega (arith, ints, next.0, next.1, c.loop-len.invariant.low, c.loop-len.invariant.high, c.loop-len.auto.len-fits) in
    let P : ℤ → Type 0 = λ z. IsRun c.args.summands.now (get_or c.args.summands.now 0 nothing).point (c.loop-len.len + 1) z in
    subst P number step

pub returns-else-summands-len-clause-sum : goal.returns-else-summands-len-clause-sum
returns-else-summands-len-clause-sum c = run_ends_before _ _ _ _ c.loop-len.invariant c.loop-len-test.true c.if-summands-len.false

pub returns-else-summands-len-clause-run : goal.returns-else-summands-len-clause-run
returns-else-summands-len-clause-run c =
    first_run_before c.args.summands.now c.loop-len.len _ c.requires.some c.requires.each c.loop-len.invariant (omega (arith, c.loop-len.auto.len-fits)) c.loop-len-test.true c.if-summands-len.false
