use Rattle.std.proofs.Common.{◌∙◌, ◌++◌, ◌∷◌, [], ap, List}
use Rattle.refute_tree.specs.declared.step.Step.{Step}
use Rattle.refute_tree.specs.declared.step.Step.TheVariants.{Cycle}
use Rattle.refute_tree.proofs.Built.{built_leaf}
use Rattle.refute_tree.proofs.tree.leaf.Goals as goal

pub returns-clause-tree : goal.returns-clause-tree
returns-clause-tree c inputs lemmas assumed = built_leaf inputs lemmas assumed c.args.cycle.now c.push_cycle.new.self (c.in_ok-push_cycle.ensures.ok ∙ ap (λ (ss : List Step). ss ++ Cycle c.args.cycle.now ∷ []) c.new-steps.ensures)
