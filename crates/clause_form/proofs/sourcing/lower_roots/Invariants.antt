use Rattle.std.proofs.Common.{◌≡◌, length}
use Rattle.clause_form.specs.code.FirstRoots.{AreFirst}
use Rattle.clause_form.proofs.Firsts.{upto}
use Rattle.clause_form.proofs.sourcing.lower_roots.Given as goal

abbrev pub invariant-loop-r : goal.invariant-loop-r
invariant-loop-r l = record {
  count : length l.asserted ≡ length l.fn.asserted;
  are : AreFirst (length l.fn.asserted) (length l.roots) l.asserted (upto l.r l.roots);
}
