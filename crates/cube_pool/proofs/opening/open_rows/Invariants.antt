use Rattle.std.proofs.Common.{◌≡◌, ◌-◌, vec_len}
use Rattle.cube_pool.specs.Lanes.{whole}
use Rattle.cube_pool.specs.code.Closings.{AreOpenWith, AreFreshRows, deques}
use Rattle.cube_pool.proofs.opening.open_rows.Given as goal

abbrev pub invariant-loop-made : goal.invariant-loop-made
invariant-loop-made l = record {
  count : vec_len l.lanes ≡ vec_len l.fn.lanes;
  same : deques l.lanes.items ≡ deques l.fn.lanes.items;
  open_ : AreOpenWith (whole - l.made) l.lanes.items;
  made : vec_len l.rows ≡ l.made;
  rows : AreFreshRows (deques l.fn.lanes.items) l.rows.items;
}
