-- What a node that is made says, and what its making leaves of the table.
use Rattle.std.specs.Prelude.{◌≡◌, ◌≤◌, ◌<◌, List, ◌++◌, length, Bool, ℤ}
use Rattle.stn_core.specs.declared.literal.Literal.{Literal}
use Rattle.idl_node.specs.Limits.{nodes_limit}
use Rattle.idl_node.specs.Nodes.{NodeValue, Placed}
use Rattle.idl_node.specs.Tables.{IsTableOf}
use Rattle.idl_node.specs.Truth.{truth}

-- The table is a longer one within its limit, and its literals are good; the node is in it, and is true exactly where its
-- meaning is.
pub record IsMade (Good : Literal → Type 0) (nodes : List NodeValue) (p : Placed) (meaning : List ℤ → Bool) : Type 0 where
  pub added : List NodeValue
  pub grows : p.nodes ≡ nodes ++ added
  pub in_range : p.number < length p.nodes
  pub few : length nodes ≤ nodes_limit → length p.nodes ≤ nodes_limit
  pub table : IsTableOf Good p.nodes
  pub says : (values : List ℤ) → truth p.nodes values p.number ≡ meaning values
