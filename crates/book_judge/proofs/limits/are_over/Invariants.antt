use Rattle.std.proofs.Common.{All, take}
use Rattle.stn_core.specs.Literal.{IsOver}
use Rattle.book_judge.proofs.limits.are_over.Given as goal

abbrev pub invariant-loop-literal : goal.invariant-loop-literal
invariant-loop-literal l = All (IsOver l.points) (take l.literal-index l.literals)
