-- The node table: formulas, each by the numbers of the nodes that it is made of. Equal nodes are one.
use Rattle.std.specs.Prelude.{ℕ, List, [], ◌∷◌, ◌++◌, length, Bool, true, false, map, nat_lt, ◌==◌, if◌then◌else◌, Option, Some, None}
use Rattle.std.specs.List.{position}
use Rattle.std.specs.Str.{bytes_eq}
use Rattle.stn_core.specs.declared.literal.Literal.{Literal}
use Rattle.stn_core.specs.Literal.{same_literal}
use Rattle.idl_node.specs.declared.node.Node.{Node}
use Rattle.idl_node.specs.declared.node.Node.TheVariants.{True, Atom, Not, And, Or}
use Rattle.idl_node.specs.Limits.{nodes_limit}

pub data NodeValue : Type 0 where
  -- true
  always : NodeValue
  -- a bound on two time points
  atom : (literal : Literal) → NodeValue
  -- not the node with this number
  denial : (member : ℕ) → NodeValue
  -- all of the nodes with these numbers
  conjunction : (members : List ℕ) → NodeValue
  -- one of the nodes with these numbers
  disjunction : (members : List ℕ) → NodeValue

-- the code's nodes, without where they lie in memory
abbrev pub node_value : Node → NodeValue
node_value True = always
node_value (Atom l) = atom l
node_value (Not member) = denial member
node_value (And members) = conjunction members.items
node_value (Or members) = disjunction members.items

abbrev pub shown : List Node → List NodeValue
shown nodes = map node_value nodes

-- whether two nodes are one; two lists of numbers are compared item by item, as two texts are
abbrev pub same_node : NodeValue → NodeValue → Bool
same_node always always = true
same_node (atom l) (atom m) = same_literal l m
same_node (denial k) (denial m) = k == m
same_node (conjunction a) (conjunction b) = bytes_eq a b
same_node (disjunction a) (disjunction b) = bytes_eq a b
same_node _ _ = false

-- the number of the node that equals this one: it is looked for in the whole table
abbrev pub number_in : List NodeValue → NodeValue → Option ℕ
number_in nodes node = position (same_node node) nodes

-- a table, and the number of a node in it
pub record Placed : Type 0 where
  pub nodes : List NodeValue
  pub number : ℕ

abbrev pub placed_by : Option ℕ → List NodeValue → NodeValue → Option Placed
placed_by (Some k) nodes node = Some (record { nodes = nodes; number = k })
placed_by None nodes node = if nat_lt (length nodes) nodes_limit then Some (record { nodes = nodes ++ node ∷ []; number = length nodes }) else None

-- An equal node's number, or else the node goes last. There is none where the table is full.
abbrev pub placed : List NodeValue → NodeValue → Option Placed
placed nodes node = placed_by (number_in nodes node) nodes node
