-- Tables whose bounds aren't far from 0.
use Rattle.std.proofs.Common.{List, [], ◌∷◌, ◌++◌, pos, neg_ℤ, ◌≤ℤ◌}
use Rattle.std.specs.List.{AllByRecursion}
use Rattle.stn_core.specs.declared.literal.Literal.{Literal}
use Rattle.idl_node.specs.Nodes.{NodeValue, always, atom, denial, conjunction, disjunction}

-- no further than 2 to the 34, as its negation is then too
abbrev pub IsNear : Literal → Type 0
IsNear l = (neg_ℤ (pos 17179869185) ≤ℤ l.c) × (l.c ≤ℤ pos 17179869184)

abbrev pub IsNearNode : NodeValue → Type 0
IsNearNode always = Unit {0}
IsNearNode (atom l) = IsNear l
IsNearNode (denial m) = Unit {0}
IsNearNode (conjunction ms) = Unit {0}
IsNearNode (disjunction ms) = Unit {0}

abbrev pub AreNear : List NodeValue → Type 0
AreNear nodes = AllByRecursion IsNearNode nodes

pub near_push : (nodes : List NodeValue) (node : NodeValue) → AreNear nodes → IsNearNode node → AreNear (nodes ++ node ∷ [])
near_push [] node h k = (k, tt)
near_push (n ∷ nodes) node h k = (h.0, near_push nodes node h.1 k)
