use Rattle.idl_linear.proofs.tree.+build.Given as goal

abbrev pub decreases-build : goal.decreases-build
decreases-build l = l.half
