-- Whether a clause is one of a problem, by computing.
use Rattle.std.specs.Prelude.{List, [], ◌∷◌, Bool, true, false, ◌&&◌}
use Rattle.std.specs.List.{list_any}
use Rattle.stn_core.specs.declared.literal.Literal.{Literal}
use Rattle.stn_core.specs.Literal.{same_literal}

-- the same literals in the same order
abbrev pub same_clause : List Literal → List Literal → Bool
same_clause [] [] = true
same_clause (l ∷ ls) (m ∷ ms) = same_literal l m && same_clause ls ms
same_clause ls ms = false

-- one of the clauses is this one, literal for literal
abbrev pub is_clause_of : List (List Literal) → List Literal → Bool
is_clause_of clauses clause = list_any (same_clause clause) clauses
