use Rattle.std.proofs.Common.{length}
use Rattle.idl_term.specs.code.Trees.{trees_of}
use Rattle.idl_term.specs.code.Walks.{bound_to}
use Rattle.idl_term.proofs.FrameSteps.{IsBinding}
use Rattle.idl_term.proofs.machine.Machine.bind_variables.Given as goal

abbrev pub invariant-loop-binding : goal.invariant-loop-binding
invariant-loop-binding l = IsBinding l.fn.self.table l.rest l.base l.self (bound_to (trees_of l.fn.self.table l.bindings) l.base l.fn.self)

abbrev pub decreases-loop-binding : goal.decreases-loop-binding
decreases-loop-binding l = length l.rest
