use Rattle.std.proofs.Common.{◌≡◌, drop}
use Rattle.idl_apply.specs.Choices.{count_from, are_few}
use Rattle.idl_apply.proofs.Arguments.{seen}
use Rattle.idl_apply.proofs.choices.are_few.Given as goal

abbrev pub invariant-loop-term : goal.invariant-loop-term
invariant-loop-term l = are_few (count_from 1 (seen l.terms)) ≡ are_few (count_from l.count (seen (drop l.term-index l.terms)))
