use Rattle.std.proofs.Common.{All, Contains, take}
use Rattle.stn_core.specs.declared.literal.Literal.{Literal}
use Rattle.stn_core.specs.Literal.{negation_of}
use Rattle.book_judge.proofs.outcomes.is_denied.Given as goal

abbrev pub invariant-loop-literal : goal.invariant-loop-literal
invariant-loop-literal l = All (λ (k : Literal). Contains l.cube (negation_of k)) (take l.literal-index l.clause)
