use Rattle.std.proofs.Common.{◌≡◌, map, drop}
use Rattle.idl_cases.specs.code.CaseSums.{added_all, signed_cases, summed_cases}
use Rattle.idl_apply.proofs.Arguments.{seen}
use Rattle.idl_apply.proofs.choices.add_all.Given as goal

abbrev pub invariant-loop-term : goal.invariant-loop-term
invariant-loop-term l =
    added_all (summed_cases l.fn.sum) (map (signed_cases l.is_negated) (seen l.terms)) ≡ added_all (summed_cases l.sum) (map (signed_cases l.is_negated) (seen (drop l.term-index l.terms)))
