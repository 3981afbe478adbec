use Rattle.std.proofs.Common.{sym, subst}
use Rattle.std.proofs.lemmas.Result.{err_from_is_err_and}
use Rattle.smt_script.specs.code.Kept.{Kept, StandsFor}
use Rattle.smt_script.proofs.Testing.{values_told, values_refused}
use Rattle.smt_script.proofs.state.State.ask_values.Goals as goal

pub test_terms-requires-clause-meaning : goal.test_terms-requires-clause-meaning
test_terms-requires-clause-meaning c = (c.requires.0, c.items_of-terms.ensures c.requires.0 c.requires.1)

pub returns-in_err-test_terms-clause-agrees : goal.returns-in_err-test_terms-clause-agrees
returns-in_err-test_terms-clause-agrees c = λ s ts stands means.
    let h = subst (λ (k : Kept). StandsFor k s) (sym c.self.view_is) stands in
    let q = err_from_is_err_and c.from_residual.result c.from_residual.ensures.1 in
    rw (c.test_terms.ensures.same, q.1, q.2) (values_refused _ s h ts c.in_err-test_terms.field-0.0 c.in-Sat.is (c.in_err-test_terms.ensures.tested ts (c.items_of-terms.ensures ts means)))

pub returns-clause-agrees : goal.returns-clause-agrees
returns-clause-agrees c = λ s ts stands means.
    let h = subst (λ (k : Kept). StandsFor k s) (sym c.self.view_is) stands in
    rw c.test_terms.ensures.same (values_told _ s h ts c.in-Sat.is (c.in_ok-test_terms.ensures.tested ts (c.items_of-terms.ensures ts means)))
