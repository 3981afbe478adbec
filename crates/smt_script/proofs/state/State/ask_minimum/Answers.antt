use Rattle.std.proofs.Common.{sym, subst}
use Rattle.std.proofs.lemmas.Result.{err_from_is_err_and}
use Rattle.smt_script.specs.code.Kept.{Kept, StandsFor}
use Rattle.smt_script.proofs.Asking.{minimum_asked, minimum_refused}
use Rattle.smt_script.proofs.state.State.ask_minimum.Goals as goal

pub returns-in_err-objective-clause-agrees : goal.returns-in_err-objective-clause-agrees
returns-in_err-objective-clause-agrees c = λ s t stands means.
    let h = subst (λ (k : Kept). StandsFor k s) (sym c.self.view_is) stands in
    let q = err_from_is_err_and c.from_residual.result c.from_residual.ensures.1 in
    rw (c.objective_in.ensures.same, q.1, q.2) (minimum_refused _ s h t c.in_err-objective.field-0.0 (c.in_err-objective.ensures.is t means))

pub returns-clause-agrees : goal.returns-clause-agrees
returns-clause-agrees c = λ s t stands means.
    let h = subst (λ (k : Kept). StandsFor k s) (sym c.self.view_is) stands in
    let there = c.ask.ensures.state s (rw c.objective_in.ensures.same h) in
    minimum_asked _ s h t c.ask.new.self c.ask.result c.in_ok-objective.objective c.ask.ensures.effect there (c.in_ok-objective.ensures.is t means)
