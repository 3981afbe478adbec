use Rattle.std.proofs.Common.{◌≡◌}
use Rattle.smt_script.proofs.Testing.{IsTestedTo}
use Rattle.smt_script.proofs.lowering.test_terms.Given as goal

abbrev pub invariant-loop-term : goal.invariant-loop-term
invariant-loop-term l = record { same : l.nodes ≡ l.fn.nodes; tested : IsTestedTo l.sexprs l.terms l.scope l.nodes l.term-index }
