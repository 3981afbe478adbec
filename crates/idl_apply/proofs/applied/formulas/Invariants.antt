use Rattle.std.proofs.Common.{◌≡◌, drop}
use Rattle.idl_apply.specs.Applied.{formulas_in}
use Rattle.idl_scope.specs.Scopes.{shown_terms}
use Rattle.idl_apply.proofs.Arguments.{behind}
use Rattle.idl_apply.proofs.applied.formulas.Given as goal

abbrev pub invariant-loop-term : goal.invariant-loop-term
invariant-loop-term l = formulas_in (shown_terms l.terms) ≡ behind l.members.items (formulas_in (shown_terms (drop l.term-index l.terms)))
