-- The code's own: each number but 0 with its parent's number and the literal of its branch.
use Rattle.std.specs.Prelude.{◌≡◌, ℕ, ◌+◌, ◌<◌, Bool, List, [], ◌∷◌, ◌++◌, length, map, slice_index_or}
use Rattle.stn_core.specs.declared.literal.Literal.{Literal}
use Rattle.cover_tree.specs.declared.node.Node.{Node}
use Rattle.cover_tree.specs.declared.link.Link.{Link}
use Rattle.cover_tree.specs.Covers.{Cubes, IsCover, is_free, is_held, held_count}

-- the path to a linked number is its parent's path and then the literal
abbrev pub linked_path : List (List Literal) → Link → List Literal
linked_path done link = slice_index_or done link.parent [] ++ link.literal ∷ []

abbrev pub paths_from : List (List Literal) → List Link → List (List Literal)
paths_from done [] = done
paths_from done (link ∷ links) = paths_from (done ++ linked_path done link ∷ []) links

abbrev pub paths_of : List Link → List (List Literal)
paths_of links = paths_from ([] ∷ []) links

-- each parent's number is below the number
abbrev pub AreBack : ℕ → List Link → Type 0
AreBack n [] = Unit {0}
AreBack n (link ∷ links) = (link.parent < n) × AreBack (n + 1) links

abbrev pub cubes_of : List Link → List Node → Cubes
cubes_of links nodes = record { paths = paths_of links; nodes = nodes }

-- what the tables of a cover are to each other
pub record AreTables (links : List Link) (nodes : List Node) (free held : List Bool) (holds : ℕ)
    : Type 0 where
  pub cover : IsCover (cubes_of links nodes)
  pub back : AreBack 1 links
  pub same : length nodes ≡ length links + 1
  pub free_are : free ≡ map is_free nodes
  pub held_are : held ≡ map is_held nodes
  pub count : holds ≡ held_count nodes
