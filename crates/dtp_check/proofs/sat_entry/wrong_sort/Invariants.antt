use Rattle.std.proofs.Common.{◌≡◌, ◌+◌, drop}
use Rattle.dtp_check.specs.Judged.{first_of_wrong_sort}
use Rattle.dtp_check.proofs.sat_entry.wrong_sort.Given as goal

abbrev pub invariant-loop-k : goal.invariant-loop-k
invariant-loop-k l = first_of_wrong_sort (l.k + 1) (drop l.k l.sorts) (drop l.k l.values) ≡ first_of_wrong_sort 1 l.sorts l.values
