use Rattle.std.proofs.Common.{length}
use Rattle.cert_check.specs.code.Walks.{waiting, IsStack, GoesOn}
use Rattle.cert_check.proofs.walk.Walk.advance.Given as goal

abbrev pub invariant-loop-frame : goal.invariant-loop-frame
invariant-loop-frame l = record {
  stack : IsStack 0 l.self.frames.items (length l.self.assumed);
  goes : GoesOn (waiting l.fn.self.frames.items l.fn.self.assumed) l.initial.reader (waiting l.self.frames.items l.self.assumed) l.reader;
}

abbrev pub decreases-loop-frame : goal.decreases-loop-frame
decreases-loop-frame l = length l.self.frames.items
