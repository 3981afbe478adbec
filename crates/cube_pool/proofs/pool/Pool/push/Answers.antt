use Rattle.cube_pool.proofs.Parts.{hand_pushed, pushed_told}
use Rattle.crossbeam_deque.specs.Handles.{worker_view}
use Rattle.cube_pool.proofs.pool.Pool.push.Goals as goal

pub invariant_of-hand : goal.invariant_of-hand
invariant_of-hand c =
    let hand = c.hand.inside in
    hand_pushed hand.number hand.pushes c.push.new.pushes c.args.id hand.lane c.push.new.lane hand.passes.items c.push.ensures.same c.push.ensures.index c.hand.invariant c.push.result c.push.ensures.count c.push.ensures.ok c.push.ensures.full

pub returns-clause-ok : goal.returns-clause-ok
returns-clause-ok c =
    let hand = c.hand.inside in
    pushed_told hand.number c.args.id (worker_view hand.lane) (worker_view c.push.new.lane) hand.passes.items c.args.hand.now c.push.result c.push.ensures.ok c.hand.view_is
