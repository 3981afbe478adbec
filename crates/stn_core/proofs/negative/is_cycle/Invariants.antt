use Rattle.std.proofs.Common.{◌≡◌, ◌*◌, ◌^◌, take, pos, ◌+ℤ◌, ◌≤ℤ◌}
use Rattle.stn_core.specs.Cycle.{Leads, weight_of}
use Rattle.stn_core.proofs.negative.is_cycle.Given as goal

abbrev pub invariant-steps : goal.invariant-steps
invariant-steps l = record {
  leads : Leads l.start (take l.literal-index l.literals) l.point;
  sum_is : l.sum ≡ weight_of (take l.literal-index l.literals);
  low : pos 0 ≤ℤ (l.sum +ℤ pos (2 ^ 63 * l.literal-index));
  high : l.sum ≤ℤ pos (2 ^ 63 * l.literal-index);
}
