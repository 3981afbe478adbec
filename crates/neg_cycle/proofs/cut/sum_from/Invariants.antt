use Rattle.std.proofs.Common.{◌≡◌, ◌*◌, ◌^◌, ◌≤◌, drop, pos, ◌+ℤ◌, ◌≤ℤ◌}
use Rattle.stn_core.specs.Cycle.{weight_of}
use Rattle.neg_cycle.proofs.cut.sum_from.Given as goal

abbrev pub invariant-bounds : goal.invariant-bounds
invariant-bounds l = record {
  from : l.place ≤ l.i;
  rest : l.sum +ℤ weight_of (drop l.i l.literals) ≡ weight_of (drop l.place l.literals);
  low : pos 0 ≤ℤ (l.sum +ℤ pos (2 ^ 63 * l.i));
  high : l.sum ≤ℤ pos (2 ^ 63 * l.i);
}
