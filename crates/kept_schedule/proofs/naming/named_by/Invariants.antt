use Rattle.std.proofs.Common.{◌≡◌, length, take}
use Rattle.stn_core.specs.Named.{AreWithinLimit}
use Rattle.idl_node.specs.Sorts.{AreOfSorts}
use Rattle.kept_schedule.proofs.naming.named_by.Given as goal

abbrev pub invariant-loop-k : goal.invariant-loop-k
invariant-loop-k l = record {
  count : length l.named.items ≡ l.k;
  so_far : AreOfSorts (take l.k l.sorts) l.named.items;
  within : AreWithinLimit l.named.items;
}
