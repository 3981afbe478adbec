-- What the reader of s-expressions found.
use Rattle.std.proofs.Common.{subst, ◌≡◌, ℕ, List, Option, Some, None, Ok, Err}
use Rattle.smt_sexpr.specs.Tree.{Sexpr}
use Rattle.smt_sexpr.specs.Table.{Table, Means}
use Rattle.smt_sexpr.specs.Reading.{Finds, Spells, Outcomes, finished, Explains}
use Rattle.smt_sexpr.specs.declared.error.SexprError.{SexprError}

pub record IsFound (t : Table) (bytes : List ℕ) (place id behind : ℕ) : Type 0 where
  pub x : Sexpr
  pub means : Means t id x
  pub spells : Spells bytes place x behind
