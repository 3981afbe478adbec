use Rattle.std.specs.Prelude.{ℕ, List, length, ℤ, pos, neg_ℤ, ◌+◌, ◌+ℤ◌, ◌-ℤ◌, ◌≤ℤ◌, ◌<◌, slice_index_or, Bool, ◌==◌, ◌&&◌}
use Rattle.std.specs.Ordering.{int_eq}
use Rattle.stn_core.specs.declared.literal.Literal.{Literal}
use Rattle.stn_core.specs.Limits.{bound_limit}

-- the value of a time point, and 0 past the end of the list
abbrev pub value_at : List ℤ → ℕ → ℤ
value_at values point = slice_index_or values point (pos 0)

-- the literal's difference is at most its bound
-- (a constraint of a Simple Temporal Network: Dechter, Meiri, Pearl 1991, section 3)
abbrev pub Holds : List ℤ → Literal → Type 0
Holds values l = (value_at values l.x -ℤ value_at values l.y) ≤ℤ l.c

-- the greatest value that the literal allows its first point, by the value of its second
abbrev pub most_allowed : List ℤ → Literal → ℤ
most_allowed values l = value_at values l.y +ℤ l.c

-- of whole numbers, x - y <= c fails exactly where y - x <= -c - 1
abbrev pub negation_of : Literal → Literal
negation_of l = record { x = l.y; y = l.x; c = neg_ℤ l.c -ℤ pos 1 }

-- its time points are among so many, and its bound is within the limits
pub record IsOver (points : ℕ) (l : Literal) : Type 0 where
  pub x_in : l.x < points
  pub y_in : l.y < points
  pub low : neg_ℤ (pos (bound_limit + 1)) ≤ℤ l.c
  pub high : l.c ≤ℤ pos bound_limit

-- the same time points and the same bound
abbrev pub same_literal : Literal → Literal → Bool
same_literal l m = l.x == m.x && (l.y == m.y && int_eq l.c m.c)

-- the literal at a place of a list
abbrev pub literal_at : List Literal → ℕ → Literal
literal_at literals place = slice_index_or literals place (record { x = 0; y = 0; c = pos 0 })

-- each of the literals holds
abbrev pub HoldEach : List ℤ → List Literal → Type 0
HoldEach values literals = (k : ℕ) → k < length literals → Holds values (literal_at literals k)
