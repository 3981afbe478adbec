use Rattle.std.proofs.Common.{arith, ◌∙◌}
use Rattle.steal_search.proofs.Going.{goes_on, hand_on}
use Rattle.steal_search.proofs.worker.go_on.Goals as goal

pub returns-in_err-step-in-Cube-clause-hand : goal.returns-in_err-step-in-Cube-clause-hand
returns-in_err-step-in-Cube-clause-hand g c = hand_on c.args.hand.now c.loop.hand c.cube_step.new.hand c.loop.invariant.hand c.in_err-step-in-Cube.ensures.hand

pub loop-preserved-in_ok-step-in-Cube : goal.loop-preserved-in_ok-step-in-Cube
loop-preserved-in_ok-step-in-Cube g c =
    let step = c.in_ok-step-in-Cube.ensures in
    record {
      seat = goes_on c.args.seat.now c.loop.seat c.cube_step.new.seat c.loop.invariant.seat step.seat;
      none = step.none;
      hand = hand_on c.args.hand.now c.loop.hand c.cube_step.new.hand c.loop.invariant.hand step.hand;
      tools = step.tools ∙ c.loop.invariant.tools;
      pauses = omega (arith, c.loop.invariant.pauses, step.pauses);
      ended = step.ended;
    }
