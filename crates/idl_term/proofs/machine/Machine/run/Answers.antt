use Rattle.std.proofs.Common.{arith, ◌+◌, ◌∙◌, ap}
use Rattle.idl_term.specs.Lowered.{lowered}
use Rattle.idl_term.specs.code.Trees.{tree_of, size_of}
use Rattle.idl_term.specs.code.Walks.{Walk, scope_at, outcome_from, weight}
use Rattle.idl_term.proofs.FrameSteps.{starts_outcome, lowers_error, running, value_lowers}
use Rattle.idl_term.proofs.machine.Machine.run.Goals as goal

pub returns-in_err-enter-clause-lowers : goal.returns-in_err-enter-clause-lowers
returns-in_err-enter-clause-lowers c =
    let w = c.args.self.now in
    lowers_error (outcome_from w c.args.nodes.now c.args.id) (lowered (scope_at w) c.args.nodes.now (tree_of w.table c.args.id)) (weight w.table w.frames + size_of (tree_of w.table c.args.id)) w c.enter.new.self c.enter.new.nodes c.enter.new.nodes c.from_residual.result c.in_err-enter.field-0.0 c.from_residual.ensures
    (starts_outcome w c.args.nodes.now c.args.id c.requires.frames c.requires.values) c.in_err-enter.ensures.steps

pub loop-frame-init : goal.loop-frame-init
loop-frame-init c = running _ _ _ _ _ _ _ (starts_outcome c.args.self.now c.args.nodes.now c.args.id c.requires.frames c.requires.values) c.in_ok-enter.ensures.steps c.in_ok-enter.ensures.front

pub returns-clause-lowers : goal.returns-clause-lowers
returns-clause-lowers c =
    value_lowers c.loop-frame.self c.loop-frame.nodes c.args.nodes.now _ c.self.inside.frames.items c.self-2.inside.values.items c.pop-2.new.self.items c.in-Some-pop.value c.loop-frame.invariant (ap (λ (w : Walk). w.frames) c.self.view_is)
    (ap (λ (w : Walk). w.values) c.self-2.view_is ∙ ap (λ (w : Walk). w.values) c.self.view_is) (omega (arith, c.in_default.ensures.cases.0)) c.in-Some-pop.ensures.items
