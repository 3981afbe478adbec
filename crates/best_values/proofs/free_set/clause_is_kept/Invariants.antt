use Rattle.std.proofs.Common.{ℕ, List, take, All}
use Rattle.stn_core.specs.declared.literal.Literal.{Literal}
use Rattle.best_values.specs.Bests.{IsKept}
use Rattle.best_values.specs.FreeSets.{AreMarks}
use Rattle.std.proofs.Common.{length}
use Rattle.best_values.proofs.free_set.clause_is_kept.Given as goal

abbrev pub invariant-loop-literal : goal.invariant-loop-literal
invariant-loop-literal l = (set : List ℕ) → AreMarks (length l.values) set l.marks → All (λ (m : Literal). ¬ IsKept l.values set m) (take l.literal-index l.clause)
