use Rattle.std.proofs.Common.{◌≤◌, length}
use Rattle.clause_form.proofs.Firsts.{IsGoing}
use Rattle.clause_form.proofs.sourcing.spread_all.Given as goal

abbrev pub invariant-loop-left : goal.invariant-loop-left
invariant-loop-left l = record {
  within : l.left ≤ length l.nodes;
  going : IsGoing l.nodes l.roots l.left l.asserted l.denied;
}

abbrev pub decreases-loop-left : goal.decreases-loop-left
decreases-loop-left l = l.left
