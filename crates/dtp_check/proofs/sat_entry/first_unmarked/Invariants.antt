use Rattle.std.proofs.Common.{◌≡◌, ◌+◌, drop}
use Rattle.dtp_check.specs.code.Roots.{first_unmarked}
use Rattle.dtp_check.proofs.sat_entry.first_unmarked.Given as goal

abbrev pub invariant-loop-k : goal.invariant-loop-k
invariant-loop-k l = first_unmarked l.marks (l.k + 1) (drop l.k l.roots) ≡ first_unmarked l.marks 1 l.roots
