-- The steps of a lemma's cases, behind others.
use Rattle.std.specs.Prelude.{◌≡◌, ℕ, List, ◌++◌, Some, slice_get}
use Rattle.stn_core.specs.declared.literal.Literal.{Literal}
use Rattle.refute_tree.specs.declared.step.Step.{Step}
use Rattle.book_core.specs.code.Closing.{leaf_steps}

-- the steps of the cases of the lemma with this number were added
pub record Closes (clauses : List (List Literal)) (j : ℕ) (old new : List Step) : Type 0 where
  pub clause : List Literal
  pub at : slice_get clauses j ≡ Some clause
  pub added : new ≡ old ++ leaf_steps j clause
