use Rattle.idl_term.proofs.FrameSteps.{binding_last, binding_more}
use Rattle.idl_term.proofs.machine.Machine.bind_variables.Goals as goal

pub bind_last-requires-clause-tree : goal.bind_last-requires-clause-tree
bind_last-requires-clause-tree c = (binding_last _ _ _ c.in-Some.binding.now _ _ _ c.loop-binding.invariant c.in-Some.ensures.cases.0).tree

pub bind_last-requires-clause-binding : goal.bind_last-requires-clause-binding
bind_last-requires-clause-binding c = (binding_last _ _ _ c.in-Some.binding.now _ _ _ c.loop-binding.invariant c.in-Some.ensures.cases.0).binding

pub loop-binding-preserved : goal.loop-binding-preserved
loop-binding-preserved c = binding_more _ _ _ c.in-Some.binding.now _ _ _ _ c.loop-binding.invariant c.in-Some.ensures.cases.0 c.in_ok-bind_last.ensures
