use Rattle.std.proofs.Common.{◌≡◌, ℕ, ◌+◌, vec_len}
use Rattle.cube_pool.specs.Lanes.{weigh}
use Rattle.cube_pool.specs.code.Closings.{AreWhole, HaveOneHistory, put_by, taken_there}
use Rattle.cube_pool.proofs.closing.drain_all.Given as goal

abbrev pub invariant-lanes : goal.invariant-lanes
invariant-lanes l = record {
  ends : AreWhole l.lanes.items;
  settled : (h : ℕ → ℕ) → put_by h l.fn.lanes.items + taken_there h l.lanes.items ≡ (taken_there h l.fn.lanes.items + put_by h l.lanes.items) + weigh h l.left.items;
  told : HaveOneHistory l.lanes.items → HaveOneHistory l.fn.lanes.items;
}

abbrev pub decreases-lanes : goal.decreases-lanes
decreases-lanes l = vec_len l.lanes
