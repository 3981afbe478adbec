-- Each list of point values satisfies the cube of exactly one leaf.
use Rattle.std.specs.Prelude.{◌≡◌, ℕ, List, All, ℤ, Some}
use Rattle.stn_core.specs.Literal.{Holds}
use Rattle.cover_tree.specs.declared.node.Node.{Node}
use Rattle.cover_tree.specs.Covers.{Cubes, IsLeaf, node_at, cube_at}

-- a leaf stands at the number, and all literals of its cube hold
pub record IsIn (values : List ℤ) (c : Cubes) (k : ℕ) : Type 0 where
  pub leaf : (n : Node) × (node_at c k ≡ Some n) × IsLeaf n
  pub holds : All (Holds values) (cube_at c k)

pub record IsInOne (values : List ℤ) (c : Cubes) : Type 0 where
  pub number : ℕ
  pub is_in : IsIn values c number
  pub alone : (k : ℕ) → IsIn values c k → k ≡ number
