use Rattle.std.proofs.Common.{ap, sym, ◌∙◌, List, Err, subst}
use Rattle.idl_apply.specs.Applied.{applied}
use Rattle.idl_scope.specs.Scopes.{LoweredTerm, shown_term}
use Rattle.idl_apply.specs.code.Shapes.{Lowers}
use Rattle.idl_term.proofs.MachineSteps.{steps_error, application_ends, with_gathered, arguments_are}
use Rattle.idl_term.proofs.machine.Machine.finish_application.Goals as goal

pub returns-in_err-value-clause-steps : goal.returns-in_err-value-clause-steps
returns-in_err-value-clause-steps c =
    let w = c.args.self.now in
    let arguments = arguments_are w c.self.inside.sexprs.now c.self.inside.locals c.self.inside.frames.items c.self.inside.values.items c.deref.result.now c.args.base c.self.view_is c.deref.ensures.value in
    steps_error _ _ _ _ _ c.apply.new.nodes _ _ c.in_err-value.field-0.0 c.from_residual.ensures (subst (λ (ts : List LoweredTerm). Lowers c.apply.new.nodes (applied c.args.operator c.args.nodes.now ts) (Err c.in_err-value.field-0.0)) arguments c.in_err-value.ensures.makes)

pub returns-clause-steps : goal.returns-clause-steps
returns-clause-steps c =
    let w = c.args.self.now in
    let inside = c.self.inside in
    let arguments = arguments_are w inside.sexprs.now inside.locals inside.frames.items inside.values.items c.deref.result.now c.args.base c.self.view_is c.deref.ensures.value in
    application_ends _ _ _ _ _ _ (shown_term c.in_ok-value.value) c.requires.ready c.requires.base (sym (ap (applied c.args.operator c.args.nodes.now) arguments) ∙ c.in_ok-value.ensures.makes)
    (with_gathered w inside.sexprs.now inside.locals inside.frames.items inside.values.items c.truncate.new.self.items c.push.new.self.items c.in_ok-value.value c.args.base c.self.view_is c.truncate.ensures.items c.in_ok-push.ensures.items)
