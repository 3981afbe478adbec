use Rattle.std.proofs.Common.{◌≡◌, ◌++◌, map, take}
use Rattle.refute_tree.specs.Lengths.{pair_step}
use Rattle.reduced_problem.proofs.restating.push_pairs.Given as goal

abbrev pub invariant-loop-literal : goal.invariant-loop-literal
invariant-loop-literal l = l.steps ≡ l.initial.steps ++ map pair_step (take l.literal-index l.literals)
