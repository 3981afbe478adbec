-- A cover: a binary tree of cubes, as a table by number.
use Rattle.std.specs.Prelude.{◌≡◌, ℕ, ◌+◌, Bool, true, false, List, [], ◌∷◌, ◌++◌, length, Option, Some, None, slice_get, slice_index_or, slice_set, if◌then◌else◌}
use Rattle.stn_core.specs.declared.literal.Literal.{Literal}
use Rattle.stn_core.specs.Literal.{negation_of}
use Rattle.cover_tree.specs.declared.node.Node.{Node}
use Rattle.cover_tree.specs.declared.node.Node.TheVariants.{Free, Held, Shut, Split}

-- For each number the literals on the path to it, outermost first, and what stands there: a leaf, which is
-- Free, Held by a seat, or Shut by a lemma, or an inner node with its literal l and a number n, whose branch
-- for l has the number n and whose branch for the negation has the number n + 1. The next number is the
-- length of both lists.
pub record Cubes : Type 0 where
  pub paths : List (List Literal)
  pub nodes : List Node

abbrev pub IsLeaf : Node → Type 0
IsLeaf Free = Unit {0}
IsLeaf (Held seat) = Unit {0}
IsLeaf (Shut lemma) = Unit {0}
IsLeaf (Split l n) = ⊥

-- the node with this number
abbrev pub node_at : Cubes → ℕ → Option Node
node_at c k = slice_get c.nodes k

-- the literals on the path to this number
abbrev pub cube_at : Cubes → ℕ → List Literal
cube_at c k = slice_index_or c.paths k []

-- one leaf, without literals
abbrev pub whole : Cubes
whole = record { paths = [] ∷ []; nodes = Free ∷ [] }

-- another node stands at the number; all else stays
abbrev pub with_node : Cubes → ℕ → Node → Cubes
with_node c k n = record { paths = c.paths; nodes = slice_set c.nodes k n }

-- the leaf becomes an inner node with two Free leaves, which take the two next numbers, the one for the
-- literal first
abbrev pub divided : Cubes → ℕ → Literal → Cubes
divided c k l = record {
  paths = c.paths ++ (cube_at c k ++ l ∷ []) ∷ (cube_at c k ++ negation_of l ∷ []) ∷ [];
  nodes = slice_set c.nodes k (Split l (length c.nodes)) ++ Free ∷ Free ∷ [];
}

-- How a cover comes about: from the whole, by leaves that change and leaves that are divided
pub data IsCover : Cubes → Type 0 where
  opening : IsCover whole
  changes : (c : Cubes) (k : ℕ) (old new : Node) → IsCover c → node_at c k ≡ Some old → IsLeaf old → IsLeaf new
      → IsCover (with_node c k new)
  divides : (c : Cubes) (k : ℕ) (old : Node) (l : Literal) → IsCover c → node_at c k ≡ Some old
      → IsLeaf old → IsCover (divided c k l)

abbrev pub is_free : Node → Bool
is_free Free = true
is_free (Held seat) = false
is_free (Shut lemma) = false
is_free (Split l n) = false

abbrev pub is_held : Node → Bool
is_held Free = false
is_held (Held seat) = true
is_held (Shut lemma) = false
is_held (Split l n) = false

-- who holds it
abbrev pub holder_of : Option Node → Option ℕ
holder_of None = None
holder_of (Some Free) = None
holder_of (Some (Held seat)) = Some seat
holder_of (Some (Shut lemma)) = None
holder_of (Some (Split l n)) = None

-- no leaf is Free
abbrev pub NoneFree : Cubes → Type 0
NoneFree c = (k : ℕ) → node_at c k ≡ Some Free → ⊥

-- no leaf is Held
abbrev pub NoneHeld : Cubes → Type 0
NoneHeld c = (k seat : ℕ) → node_at c k ≡ Some (Held seat) → ⊥

-- how many leaves are Held
abbrev pub held_count : List Node → ℕ
held_count [] = 0
held_count (n ∷ ns) = (if is_held n then 1 else 0) + held_count ns
