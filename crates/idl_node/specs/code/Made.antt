-- What a call that makes a node gives.
use Rattle.std.specs.Prelude.{◌≡◌, ℕ, List, Option, Some, None, Result, Ok, Err}
use Rattle.idl_node.specs.declared.error.NodeError.{NodeError}
use Rattle.idl_node.specs.declared.error.NodeError.TheVariants.{Refused, OutOfMemory}
use Rattle.idl_node.specs.declared.error.NodeRefusal.TheVariants.{TooLarge}
use Rattle.idl_node.specs.Nodes.{NodeValue, Placed}

-- the node's number, where the table is now that with the node; or there is no room for it; want of memory says nothing
abbrev pub Makes : List NodeValue → Option Placed → Result ℕ NodeError → Type 0
Makes now made (Ok number) = made ≡ Some (record { nodes = now; number = number })
Makes now made (Err (Refused TooLarge)) = made ≡ None
Makes now made (Err OutOfMemory) = Unit {0}
