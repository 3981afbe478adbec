use Rattle.std.proofs.Common.{◌≡◌, ◌++◌, ◌+◌, drop, get_or, pos}
use Rattle.stn_core.specs.Named.{AreWithinLimit}
use Rattle.clause_form.specs.Restricting.{restricted_by, restricted}
use Rattle.clause_form.proofs.schedule.restrict.Given as goal

abbrev pub invariant-loop-k : goal.invariant-loop-k
invariant-loop-k l = record {
  so_far : l.named.items ++ restricted_by (get_or l.values 0 (pos 0)) (drop l.k l.sorts) (drop (l.k + 1) l.values) ≡ restricted l.sorts l.values;
  within : AreWithinLimit l.named.items;
}
