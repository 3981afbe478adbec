use Rattle.idl_term.specs.Lowered.{lowered}
use Rattle.idl_term.specs.code.Trees.{tree_of}
use Rattle.idl_term.specs.code.Walks.{scope_at, weight}
use Rattle.idl_term.proofs.FrameSteps.{IsRunning}
use Rattle.idl_term.proofs.machine.Machine.run.Given as goal

abbrev pub invariant-loop-frame : goal.invariant-loop-frame
invariant-loop-frame l = IsRunning l.self l.nodes l.fn.nodes (lowered (scope_at l.fn.self) l.fn.nodes (tree_of l.fn.self.table l.fn.id))

abbrev pub decreases-loop-frame : goal.decreases-loop-frame
decreases-loop-frame l = weight l.self.table l.self.frames
