use Rattle.idl_term.proofs.FrameSteps.{unbind_steps}
use Rattle.idl_term.proofs.machine.Machine.go_on.Goals as goal

pub returns-in-Unbind-clause-steps : goal.returns-in-Unbind-clause-steps
returns-in-Unbind-clause-steps c =
    let inside = c.self.inside in
    unbind_steps c.args.self.now inside.sexprs.now inside.locals c.unbind.new.self inside.frames.items inside.values.items c.args.nodes.now c.args.frame c.in-Unbind.count c.in-Unbind.is c.requires.ready c.self.view_is c.unbind.ensures
