use Rattle.std.proofs.Common.{◌∙◌, ◌++◌, ◌∷◌, [], ap, List}
use Rattle.refute_tree.specs.declared.step.Step.{Step}
use Rattle.refute_tree.specs.declared.step.Step.TheVariants.{Clash}
use Rattle.refute_tree.proofs.Built.{built_clash}
use Rattle.refute_tree.proofs.tree.clash.Goals as goal

pub returns-clause-tree : goal.returns-clause-tree
returns-clause-tree c inputs lemmas assumed clause = built_clash inputs lemmas assumed clause c.args.i c.push_clash.new.self (c.in_ok-push_clash.ensures.ok ∙ ap (λ (ss : List Step). ss ++ Clash c.args.i ∷ []) c.new-steps.ensures)
