-- Tables whose nodes are made of earlier ones.
use Rattle.std.specs.Prelude.{ℕ, ◌<◌, List, length, slice_index_or}
use Rattle.std.specs.List.{AllByRecursion}
use Rattle.stn_core.specs.declared.literal.Literal.{Literal}
use Rattle.stn_core.specs.Literal.{IsOver}
use Rattle.idl_node.specs.Nodes.{NodeValue, always, atom, denial, conjunction, disjunction}

-- what a `not` may have as its member: no atom and no `not`
abbrev pub IsDeniable : NodeValue → Type 0
IsDeniable (atom l) = ⊥
IsDeniable (denial m) = ⊥
IsDeniable _ = Unit {0}

-- an atom's literal is good; members are earlier nodes
abbrev pub IsNodeOf : (Literal → Type 0) → List NodeValue → ℕ → NodeValue → Type 0
IsNodeOf Good nodes k always = Unit {0}
IsNodeOf Good nodes k (atom l) = Good l
IsNodeOf Good nodes k (denial m) = (m < k) × IsDeniable (slice_index_or nodes m always)
IsNodeOf Good nodes k (conjunction ms) = AllByRecursion (λ m. m < k) ms
IsNodeOf Good nodes k (disjunction ms) = AllByRecursion (λ m. m < k) ms

-- each node of the table is made of earlier ones, and each atom's literal is good
abbrev pub IsTableOf : (Literal → Type 0) → List NodeValue → Type 0
IsTableOf Good nodes = (k : ℕ) → k < length nodes → IsNodeOf Good nodes k (slice_index_or nodes k always)

-- the literals are within the limits and over so many time points
abbrev pub IsTableOver : ℕ → List NodeValue → Type 0
IsTableOver points nodes = IsTableOf (IsOver points) nodes
