-- What an inner node is to its branches.
use Rattle.std.specs.Prelude.{◌≡◌, ℕ, ◌+◌, ◌<◌, [], ◌∷◌, ◌++◌, length}
use Rattle.stn_core.specs.declared.literal.Literal.{Literal}
use Rattle.stn_core.specs.Literal.{negation_of}
use Rattle.cover_tree.specs.Covers.{Cubes, cube_at}

-- its branches have greater numbers, and their paths are one literal longer
pub record AreBranches (c : Cubes) (k : ℕ) (l : Literal) (n : ℕ) : Type 0 where
  pub below : k < n
  pub there : n + 1 < length c.nodes
  pub first : cube_at c n ≡ cube_at c k ++ l ∷ []
  pub second : cube_at c (n + 1) ≡ cube_at c k ++ negation_of l ∷ []
