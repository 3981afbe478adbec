use Rattle.std.proofs.Common.{sym, ap, subst}
use Rattle.smt_script.specs.code.Kept.{Kept, StandsFor}
use Rattle.smt_script.specs.States.{after_option}
use Rattle.smt_script.proofs.Keeping.{stands_printing}
use Rattle.smt_script.proofs.state.State.set_option.Goals as goal

pub returns-in-PrintSuccess-clause-agrees : goal.returns-in-PrintSuccess-clause-agrees
returns-in-PrintSuccess-clause-agrees c = λ s v stands means.
    let on = c.in-PrintSuccess.on in
    (record s { print_success = on }, ap (after_option s) (sym (c.in-PrintSuccess.ensures v means)), stands_printing _ s on (subst (λ (k : Kept). StandsFor k s) (sym c.self.view_is) stands))
