use Rattle.std.proofs.Common.{subst}
use Rattle.smt_script.specs.code.Shapes.{CommandIs}
use Rattle.smt_script.specs.declared.command.Request.{Request}
use Rattle.smt_script.proofs.Asking.{checking_asked}
use Rattle.smt_script.proofs.state.State.carry_out.Goals as goal

pub returns-in-SetOption-clause-agrees : goal.returns-in-SetOption-clause-agrees
returns-in-SetOption-clause-agrees c = λ s meant stands is.
    let h = subst (λ (r : Request). CommandIs c.args.sexprs.now r meant) c.in-SetOption.is is in
    rw h.2 (c.set_option.ensures.agrees s h.0 stands h.1)

pub returns-in-Values-clause-agrees : goal.returns-in-Values-clause-agrees
returns-in-Values-clause-agrees c = λ s meant stands is.
    let h = subst (λ (r : Request). CommandIs c.args.sexprs.now r meant) c.in-Values.is is in
    rw h.2 (c.ask_values.ensures.agrees s h.0 stands h.1)

pub returns-in-CheckSatAssuming-clause-agrees : goal.returns-in-CheckSatAssuming-clause-agrees
returns-in-CheckSatAssuming-clause-agrees c = λ s meant stands is.
    let h = subst (λ (r : Request). CommandIs c.args.sexprs.now r meant) c.in-CheckSatAssuming.is is in
    rw h.3 (c.assume.ensures.agrees s h.0 stands h.1 h.2)

pub returns-in-CheckSat-clause-agrees : goal.returns-in-CheckSat-clause-agrees
returns-in-CheckSat-clause-agrees c = λ s meant stands is.
    let h = subst (λ (r : Request). CommandIs c.args.sexprs.now r meant) c.in-CheckSat.is is in
    rw h (checking_asked s c.ask.new.self c.ask.result c.ask.ensures.effect (c.ask.ensures.state s stands))
