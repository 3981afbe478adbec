use Rattle.std.proofs.Common.{subst}
use Rattle.std.proofs.lemmas.List.{nil_from_length}
use Rattle.idl_term.specs.code.Walks.{AreNamesBefore, Walk}
use Rattle.idl_term.proofs.MachineSteps.{with_pushed}
use Rattle.idl_term.proofs.NameSteps.{names_steps}
use Rattle.idl_term.proofs.FrameSteps.{argument_steps, last_steps}
use Rattle.idl_term.proofs.machine.Machine.go_on_applying.Goals as goal

pub returns-in-Some-clause-steps : goal.returns-in-Some-clause-steps
returns-in-Some-clause-steps c =
    let w = c.args.self.now in
    let inside = c.self.inside in
    let names = subst (λ (x : Walk). AreNamesBefore x.table c.args.rest.now c.in-Some.first.now c.in-Some.second.now c.in-Some.others.now) c.self.view_is c.in-Some.ensures in
    names_steps w c.args.nodes.now c.args.operator c.args.rest c.in-Some.others c.in-Some.first.now c.in-Some.second.now c.args.base names c.requires.ready _ _ _ _
    (with_pushed w inside.sexprs.now inside.locals inside.frames.items c.push.new.self.items inside.values.items _ c.self.view_is c.in_ok-push.ensures.items) c.enter_names.ensures.steps

pub returns-in_default-split_first-clause-steps : goal.returns-in_default-split_first-clause-steps
returns-in_default-split_first-clause-steps c = last_steps c.args.self.now _ _ _ c.args.operator c.args.rest c.args.base _ (nil_from_length c.args.rest.now c.in_default-split_first.ensures.cases) c.finish_application.ensures.steps

pub returns-clause-steps : goal.returns-clause-steps
returns-clause-steps c =
    let w = c.args.self.now in
    let inside = c.self.inside in
    argument_steps w _ _ _ _ c.args.operator c.args.rest c.in-Some-split_first.rest c.in-Some-split_first.argument.now c.args.base _ c.in-Some-split_first.ensures.cases.0 c.requires.ready
    (with_pushed w inside.sexprs.now inside.locals inside.frames.items c.push-2.new.self.items inside.values.items _ c.self.view_is c.in_ok-push-2.ensures.items) c.enter.ensures.steps
