use Rattle.script_walk.proofs.visitor.go_through.Given as goal

abbrev pub invariant-events : goal.invariant-events
invariant-events g l = g.V.Visitor.so_far l.fn.visitor l.fn.lent l.visitor l.lent

abbrev pub decreases-events : goal.decreases-events
decreases-events g l = g.V.Visitor.left l.visitor
