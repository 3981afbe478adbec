use Rattle.std.proofs.Common.{◌≡◌, ◌∙◌, ◌++◌, ◌∷◌, [], ap, sym, List, append-nil, drop, arith}
use Rattle.std.proofs.lemmas.List.{drop_all}
use Rattle.refute_tree.specs.declared.step.Step.{Step}
use Rattle.refute_tree.specs.Trees.{joined}
use Rattle.refute_tree.specs.code.Views.{step_seen}
use Rattle.refute_tree.proofs.Built.{built_cases}
use Rattle.refute_tree.proofs.tree.cases.Goals as goal

pub returns-clause-tree : goal.returns-clause-tree
returns-clause-tree c inputs lemmas assumed clause is trees =
    let none_left : [] ≡ drop c.loop-child.child-index c.args.children.now = sym (drop_all c.loop-child.child-index c.args.children.now (omega (arith, c.loop-child-test.false))) in
    let all : c.loop-child.steps ≡ step_seen c.args.step ∷ joined c.args.children.now =
    sym (append-nil c.loop-child.steps) ∙ ap (λ (cs : List (List Step)). c.loop-child.steps ++ joined cs) none_left ∙ c.loop-child.invariant in
    built_cases inputs lemmas assumed clause (step_seen c.args.step) c.args.children.now c.loop-child.steps all is trees
