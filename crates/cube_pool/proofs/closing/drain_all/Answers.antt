use Rattle.std.proofs.Common.{◌∙◌, ap, ◌++◌, ℕ, List}
use Rattle.crossbeam_deque.specs.Handles.{worker_view}
use Rattle.cube_pool.specs.Lanes.{HasOneHistory}
use Rattle.cube_pool.specs.code.Closings.{Lane, IsWhole}
use Rattle.cube_pool.proofs.Lists.{all_longer, first_of}
use Rattle.cube_pool.proofs.Parts.{drained}
use Rattle.cube_pool.proofs.closing.drain_all.Goals as goal

pub lanes-preserved : goal.lanes-preserved
lanes-preserved c =
    let P : ℕ → Lane → Type 0 = λ k lane. IsWhole lane in
    record {
      ends = first_of P c.lanes.lanes.items c.pop.new.self.items c.in-Some.lane c.in-Some.ensures.items c.lanes.invariant.ends;
      settled = λ h. drained c.args.lanes.items c.lanes.lanes.items c.pop.new.self.items c.in-Some.lane c.lanes.left.items c.in_ok-rest.rest.items c.extend_from_slice.new.self.items
          c.in-Some.ensures.items (c.in_ok-extend_from_slice.ensures.items ∙ ap (λ (r : List ℕ). c.lanes.left.items ++ r) c.as_slice.ensures.value) h (c.lanes.invariant.settled h) c.in_ok-rest.ensures.settled;
      told = λ rest. c.lanes.invariant.told (all_longer (λ (lane : Lane). HasOneHistory (worker_view lane)) c.lanes.lanes.items c.pop.new.self.items c.in-Some.lane c.in-Some.ensures.items rest c.in_ok-rest.ensures.history);
    }
