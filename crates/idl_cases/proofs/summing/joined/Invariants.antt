use Rattle.std.proofs.Common.{◌≡◌, take}
use Rattle.idl_cases.specs.code.CasePlaces.{signed_lists}
use Rattle.idl_cases.specs.code.CaseSums.{added_all, signed_cases}
use Rattle.idl_cases.proofs.summing.joined.Given as goal

abbrev pub invariant-loop-other : goal.invariant-loop-other
invariant-loop-other l = record {
  same : l.choices ≡ added_all (signed_cases l.fn.first.is_negated l.fn.first.choices.now) (signed_lists (take l.other-index l.others));
}
