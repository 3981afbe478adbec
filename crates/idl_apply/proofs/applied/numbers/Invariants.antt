use Rattle.std.proofs.Common.{◌≡◌, drop}
use Rattle.idl_apply.specs.Applied.{numbers_in}
use Rattle.idl_scope.specs.Scopes.{shown_terms}
use Rattle.idl_apply.proofs.Arguments.{behind, seen}
use Rattle.idl_apply.proofs.applied.numbers.Given as goal

abbrev pub invariant-loop-term : goal.invariant-loop-term
invariant-loop-term l = numbers_in (shown_terms l.terms) ≡ behind (seen l.members.items) (numbers_in (shown_terms (drop l.term-index l.terms)))
