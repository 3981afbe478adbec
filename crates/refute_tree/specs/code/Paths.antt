-- Of the code and not of the meaning: literals of which each begins at the point where the one before it ends, by their
-- points and their bounds.
use Rattle.std.specs.Prelude.{ℕ, ◌<◌, ◌^◌, ℤ, pos, neg_ℤ, ◌≤ℤ◌, ◌<ℤ◌, List, [], ◌∷◌, length, map, All, slice_index, slice_index_or}
use Rattle.stn_core.specs.declared.literal.Literal.{Literal}
use Rattle.stn_core.specs.Cycle.{Leads}

-- between two points each a literal, so long as there are bounds
abbrev pub path_of : List ℕ → List ℤ → List Literal
path_of (x ∷ y ∷ points) (c ∷ bounds) = record { x = x; y = y; c = c } ∷ path_of (y ∷ points) bounds
path_of points bounds = []

-- the first literal of a path
abbrev pub narrow_literal : List ℕ → List ℤ → Literal
narrow_literal points bounds =
    record { x = slice_index points 0; y = slice_index points 1; c = slice_index_or bounds 0 (pos 0) }

abbrev pub points_of : List Literal → List ℕ
points_of [] = []
points_of (l ∷ ls) = l.x ∷ map (λ (m : Literal). m.y) (l ∷ ls)

abbrev pub bounds_of : List Literal → List ℤ
bounds_of ls = map (λ (l : Literal). l.c) ls

-- points below 2^16, and a bound of 32 bits
pub record IsNarrow (l : Literal) : Type 0 where
  pub x_in : l.x < 2 ^ 16
  pub y_in : l.y < 2 ^ 16
  pub low : neg_ℤ (pos (2 ^ 31)) ≤ℤ l.c
  pub high : l.c <ℤ pos (2 ^ 31)

-- some narrow literals, fewer than 2^32, which lead from a point to another
pub record IsShortPath (ls : List Literal) : Type 0 where
  pub some : 0 < length ls
  pub few : length ls < 2 ^ 32
  pub narrow : All IsNarrow ls
  pub leads : (from : ℕ) × (to : ℕ) × Leads from ls to
