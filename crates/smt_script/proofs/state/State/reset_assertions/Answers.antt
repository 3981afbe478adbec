use Rattle.std.proofs.Common.{sym, subst, Bool}
use Rattle.smt_script.specs.code.Kept.{Kept, StandsFor}
use Rattle.smt_script.specs.States.{start_state}
use Rattle.smt_script.proofs.state.State.reset_assertions.Goals as goal

pub returns : goal.returns
returns c = λ s stands.
    let h = subst (λ (k : Kept). StandsFor k s) (sym c.self.view_is) stands in
    subst (λ (on : Bool). StandsFor c.clear.new.self (record start_state { print_success = on })) h.print_success c.clear.ensures
