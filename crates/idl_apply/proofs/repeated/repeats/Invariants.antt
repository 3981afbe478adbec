use Rattle.std.proofs.Common.{◌≡◌, length}
use Rattle.idl_node.specs.code.Repeats.{LeadsBack}
use Rattle.idl_apply.proofs.Arguments.{seen}
use Rattle.idl_apply.proofs.repeated.repeats.Given as goal

abbrev pub invariant-loop-i : goal.invariant-loop-i
invariant-loop-i l = record {
  count : length l.earlier.items ≡ l.i;
  leads : LeadsBack (seen l.terms) l.earlier.items;
}
