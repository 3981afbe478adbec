-- The s-expression that an id of a table stands for, as a function, and how large it is. These are words of the code, and no
-- part of the meaning.
use Rattle.std.specs.Prelude.{ℕ, zero, suc, ◌+◌, List, [], ◌∷◌, take, drop, Option, Some, None, slice_get, slice_range}
use Rattle.smt_sexpr.specs.declared.node.Node.{Node}
use Rattle.smt_sexpr.specs.declared.node.Node.TheVariants.{Leaf, List as ListOf}
use Rattle.smt_sexpr.specs.Table.{Table, Means}
use Rattle.smt_sexpr.specs.Tree.{Sexpr, Items, leaf, list, none, more, leaf_text}

abbrev pub items_by : (ℕ → Sexpr) → List ℕ → Items
items_by f [] = none
items_by f (id ∷ ids) = more (f id) (items_by f ids)

abbrev pub node_by : (ℕ → Sexpr) → Table → Option Node → Sexpr
node_by f t None = list none
node_by f t (Some (Leaf token)) = leaf token.kind (leaf_text token.kind (slice_range t.bytes token.start token.end))
node_by f t (Some (ListOf first count)) = list (items_by f (take count (drop first t.items)))

-- looked for in at most n levels
unfoldable pub tree_within : ℕ → Table → ℕ → Sexpr
tree_within zero t id = list none
tree_within (suc n) t id = node_by (λ i. tree_within n t i) t (slice_get t.nodes id)

-- items have smaller ids than their list
unfoldable pub tree_of : Table → ℕ → Sexpr
tree_of t id = tree_within (suc id) t id

abbrev pub trees_of : Table → List ℕ → Items
trees_of t [] = none
trees_of t (id ∷ ids) = more (tree_of t id) (trees_of t ids)

-- the ids stand for s-expressions
abbrev pub IsTree : Table → ℕ → Type 0
IsTree t id = Means t id (tree_of t id)

abbrev pub AreTrees : Table → List ℕ → Type 0
AreTrees t [] = Unit {0}
AreTrees t (id ∷ ids) = IsTree t id × AreTrees t ids

-- how many parts it has, a list counted more than its items
abbrev mutual
  pub size_of : Sexpr → ℕ
  size_of (leaf kind text) = 1
  size_of (list items) = 3 + sizes_of items

  pub sizes_of : Items → ℕ
  sizes_of none = 0
  sizes_of (more x xs) = size_of x + (1 + sizes_of xs)
