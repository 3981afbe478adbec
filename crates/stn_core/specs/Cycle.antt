use Rattle.std.specs.Prelude.{◌≡◌, ℕ, ◌<◌, List, [], ◌∷◌, length, ℤ, pos, ◌+ℤ◌, ◌<ℤ◌}
use Rattle.stn_core.specs.declared.literal.Literal.{Literal}

-- the literals lead from one time point to another: each y is the next one's x
abbrev pub Leads : ℕ → List Literal → ℕ → Type 0
Leads from [] to = from ≡ to
Leads from (l ∷ ls) to = (l.x ≡ from) × Leads l.y ls to

-- the sum of the bounds
abbrev pub weight_of : List Literal → ℤ
weight_of [] = pos 0
weight_of (l ∷ ls) = l.c +ℤ weight_of ls

-- a negative cycle: not empty, each y is the next one's x, the last y is the first x, and the bounds' sum is below 0
-- (Dechter, Meiri, Pearl 1991, section 3: a Simple Temporal Network is consistent exactly where it has none)
pub record IsNegativeCycle (cycle : List Literal) : Type 0 where
  pub some : 0 < length cycle
  pub closed : (point : ℕ) × Leads point cycle point
  pub negative : weight_of cycle <ℤ pos 0
