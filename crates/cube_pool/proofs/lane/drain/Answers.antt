use Rattle.std.proofs.Common.{arith, ◌≡◌, length}
use Rattle.crossbeam_deque.specs.Handles.{worker_view}
use Rattle.cube_pool.proofs.Lanes.{takes, learns, ends, settled_now, settled_all}
use Rattle.cube_pool.proofs.lane.drain.Goals as goal

pub len_as-count-requires : goal.len_as-count-requires
len_as-count-requires c = learns _ _ c.requires.parts.0 c.requires.parts.1

pub pop_as-requires-clause-fifo : goal.pop_as-requires-clause-fifo
pop_as-requires-clause-fifo c _ = takes _ _ (omega (arith, c.loop-i.invariant.parts))

pub pop_as-requires-clause-empty : goal.pop_as-requires-clause-empty
pop_as-requires-clause-empty c = ends _ _ c.loop-i.invariant.parts

pub returns-in-None-clause-settled : goal.returns-in-None-clause-settled
returns-in-None-clause-settled c = settled_now (worker_view c.loop-i.lane) _ _ _ c.loop-i.invariant.put c.loop-i.invariant.taken c.in-None.ensures.rule.1

pub len_as-requires : goal.len_as-requires
len_as-requires c = learns _ _ c.loop-i.invariant.first c.loop-i.invariant.parts

pub returns-clause-settled : goal.returns-clause-settled
returns-clause-settled c =
    let first = c.len_as-count.ensures.rule in
    let last = c.len_as.ensures.rule in
    let count : length c.loop-i.left.items ≡ length first.0 = omega (arith, first.1, c.loop-i.invariant.count) in
    settled_all (worker_view c.loop-i.lane) _ _ _ first.0 last.0 c.loop-i.invariant.put c.loop-i.invariant.taken first.2.0 count last.2.0
