use Rattle.std.proofs.Common.{◌≡◌, ◌++◌, take}
use Rattle.book_core.specs.code.Closing.{leaf_steps}
use Rattle.book_core.proofs.closing.write_leaf.Given as goal

abbrev pub invariant-loop-literal : goal.invariant-loop-literal
invariant-loop-literal l = l.steps ≡ l.fn.steps ++ leaf_steps l.j (take l.literal-index l.clause)
