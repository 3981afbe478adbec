-- Which nodes are asserted, denied and inner (the clause form of Plaisted and Greenbaum 1986, with both directions for each
-- inner node). Members have smaller numbers than their node, so that these sets are found from the last node down.
use Rattle.std.specs.Prelude.{ℕ, zero, suc, List, [], ◌∷◌, ◌++◌, length, Bool, true, false, if◌then◌else◌, nat_eq, slice_index_or}
use Rattle.std.specs.List.{list_any}
use Rattle.idl_node.specs.Nodes.{NodeValue, always, atom, denial, conjunction, disjunction}

abbrev pub is_among : ℕ → List ℕ → Bool
is_among k numbers = list_any (nat_eq k) numbers

abbrev pub node_at : List NodeValue → ℕ → NodeValue
node_at nodes k = slice_index_or nodes k always

-- numbers of asserted and of denied nodes
pub record Polarity : Type 0 where
  pub asserted : List ℕ
  pub denied : List ℕ

-- an asserted `and` has its members asserted, an asserted `not` its member denied
abbrev pub from_asserted : NodeValue → Polarity → Polarity
from_asserted (conjunction ms) p = record { asserted = ms ++ p.asserted; denied = p.denied }
from_asserted (denial m) p = record { asserted = p.asserted; denied = m ∷ p.denied }
from_asserted always p = p
from_asserted (atom l) p = p
from_asserted (disjunction ms) p = p

-- a denied `or` has its members denied, a denied `not` its member asserted
abbrev pub from_denied : NodeValue → Polarity → Polarity
from_denied (disjunction ms) p = record { asserted = p.asserted; denied = ms ++ p.denied }
from_denied (denial m) p = record { asserted = m ∷ p.asserted; denied = p.denied }
from_denied always p = p
from_denied (atom l) p = p
from_denied (conjunction ms) p = p

abbrev pub spread_asserted : Bool → NodeValue → Polarity → Polarity
spread_asserted true node p = from_asserted node p
spread_asserted false node p = p

abbrev pub spread_denied : Bool → NodeValue → Polarity → Polarity
spread_denied true node p = from_denied node p
spread_denied false node p = p

-- what the node with this number adds
abbrev pub spread : ℕ → NodeValue → Polarity → Polarity
spread k node p = spread_denied (is_among k p.denied) node (spread_asserted (is_among k p.asserted) node p)

-- from node count - 1 down to node 0
abbrev pub polarity_below : ℕ → List NodeValue → Polarity → Polarity
polarity_below zero nodes p = p
polarity_below (suc k) nodes p = polarity_below k nodes (spread k (node_at nodes k) p)

-- the asserted and denied nodes, where these are the roots
unfoldable pub polarity_of : List NodeValue → List ℕ → Polarity
polarity_of nodes roots = polarity_below (length nodes) nodes (record { asserted = roots; denied = [] })

-- ---- inner nodes

-- the member of a `not`, else the node itself
abbrev pub body_of : NodeValue → ℕ → ℕ
body_of (denial m) k = m
body_of always k = k
body_of (atom l) k = k
body_of (conjunction ms) k = k
body_of (disjunction ms) k = k

abbrev pub body_at : List NodeValue → ℕ → ℕ
body_at nodes k = body_of (node_at nodes k) k

abbrev pub is_compound : NodeValue → Bool
is_compound (conjunction ms) = true
is_compound (disjunction ms) = true
is_compound always = false
is_compound (atom l) = false
is_compound (denial m) = false

-- those among the members' bodies that are an `and` or an `or`
abbrev pub compounds : List NodeValue → List ℕ → List ℕ
compounds nodes [] = []
compounds nodes (m ∷ ms) = if is_compound (node_at nodes (body_at nodes m)) then body_at nodes m ∷ compounds nodes ms else compounds nodes ms

-- the inner nodes among the members of an asserted `or`, of a denied `and`, and of an inner node
abbrev pub inner_of : Bool → Bool → Bool → List NodeValue → NodeValue → List ℕ
inner_of asserted denied true nodes (conjunction ms) = compounds nodes ms
inner_of asserted denied true nodes (disjunction ms) = compounds nodes ms
inner_of asserted true inner nodes (conjunction ms) = compounds nodes ms
inner_of true denied inner nodes (disjunction ms) = compounds nodes ms
inner_of asserted denied inner nodes always = []
inner_of asserted denied inner nodes (atom l) = []
inner_of asserted denied inner nodes (denial m) = []
inner_of asserted denied inner nodes (conjunction ms) = []
inner_of asserted denied inner nodes (disjunction ms) = []

abbrev pub inner_below : ℕ → List NodeValue → Polarity → List ℕ → List ℕ
inner_below zero nodes p inner = inner
inner_below (suc k) nodes p inner = inner_below k nodes p (inner_of (is_among k p.asserted) (is_among k p.denied) (is_among k inner) nodes (node_at nodes k) ++ inner)

-- the inner nodes
unfoldable pub inner_nodes : List NodeValue → Polarity → List ℕ
inner_nodes nodes p = inner_below (length nodes) nodes p []
