use Rattle.std.proofs.Common.{◌≡◌}
use Rattle.steal_search.specs.code.Staff.{IsFirst}
use Rattle.steal_search.proofs.shared.begin.Given as goal

abbrev pub invariant-loop-slice : goal.invariant-loop-slice
invariant-loop-slice g l = record {
  seat : IsFirst l.desk l.team 1 l.seat;
  tools : l.pace.tools ≡ l.fn.pace.tools;
}
