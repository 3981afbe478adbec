use Rattle.idl_linear.proofs.tree.+with_more.Given as goal

abbrev pub decreases-with_more : goal.decreases-with_more
decreases-with_more l = l.tree.now.height
