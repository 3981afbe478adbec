use Rattle.std.proofs.Common.{◌≡◌, ◌∷◌, ◌++◌, drop}
use Rattle.refute_tree.specs.Trees.{joined}
use Rattle.refute_tree.specs.code.Views.{step_seen}
use Rattle.refute_tree.proofs.tree.cases.Given as goal

abbrev pub invariant-loop-child : goal.invariant-loop-child
invariant-loop-child l = l.steps ++ joined (drop l.child-index l.children) ≡ step_seen l.fn.step ∷ joined l.children
