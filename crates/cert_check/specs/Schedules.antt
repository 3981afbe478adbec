use Rattle.std.specs.Prelude.{ℕ, ◌<◌, List, [], length, take, All, slice_index_or, ℤ}
use Rattle.stn_core.specs.declared.literal.Literal.{Literal}
use Rattle.stn_core.specs.Problem.{ClauseHolds}

-- the clause with this number doesn't hold, and those before it do
pub record IsFirstFalse (values : List ℤ) (clauses : List (List Literal)) (number : ℕ) : Type 0 where
  pub within : number < length clauses
  pub before : All (ClauseHolds values) (take number clauses)
  pub fails : ¬ ClauseHolds values (slice_index_or clauses number [])
