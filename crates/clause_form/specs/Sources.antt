-- From which root each clause of a clause form comes.
use Rattle.std.specs.Prelude.{◌≡◌, ℕ, zero, suc, ◌+◌, ◌<◌, List, [], ◌∷◌, ◌++◌, length, replicate, Bool, true, false, if◌then◌else◌, Option, Some, None, slice_index}
use Rattle.idl_node.specs.Nodes.{NodeValue, always, atom, denial, conjunction, disjunction}
use Rattle.clause_form.specs.Polarity.{is_among, node_at, Polarity, polarity_of, inner_nodes}

-- the first of the roots that passes the test, where the first one has this number
abbrev pub first_root : (ℕ → Bool) → ℕ → List ℕ → Option ℕ
first_root test number [] = None
first_root test number (root ∷ roots) = if test root then Some number else first_root test (suc number) roots

-- node k is asserted, or denied, where this is the only root
abbrev pub asserts : List NodeValue → ℕ → ℕ → Bool
asserts nodes k root = is_among k (polarity_of nodes (root ∷ [])).asserted

abbrev pub denies : List NodeValue → ℕ → ℕ → Bool
denies nodes k root = is_among k (polarity_of nodes (root ∷ [])).denied

-- there is one, which passes the test
abbrev pub HasRoot : (ℕ → Bool) → List ℕ → Option ℕ → Type 0
HasRoot test roots None = ⊥
HasRoot test roots (Some r) = (r < length roots) × (test (slice_index roots r) ≡ true)

-- how many clauses a node has where it is asserted, denied and inner
abbrev pub asserted_count : NodeValue → ℕ
asserted_count always = 1
asserted_count (atom l) = 1
asserted_count (disjunction ms) = 1
asserted_count (denial m) = 0
asserted_count (conjunction ms) = 0

abbrev pub denied_count : NodeValue → ℕ
denied_count always = 1
denied_count (atom l) = 1
denied_count (conjunction ms) = 1
denied_count (denial m) = 0
denied_count (disjunction ms) = 0

abbrev pub inner_clause_count : NodeValue → ℕ
inner_clause_count (conjunction ms) = length ms + 1
inner_clause_count (disjunction ms) = length ms + 1
inner_clause_count always = 0
inner_clause_count (atom l) = 0
inner_clause_count (denial m) = 0

-- so many times the source, where there is a clause
abbrev pub times_when : Bool → ℕ → Option ℕ → List (Option ℕ)
times_when true count source = replicate count source
times_when false count source = []

-- for each clause of node k its source: the first root that alone asserts the node, or denies it; none for a clause that
-- says what an inner node is
abbrev pub node_sources : List NodeValue → List ℕ → Polarity → List ℕ → ℕ → List (Option ℕ)
node_sources nodes roots p inner k =
    times_when (is_among k p.asserted) (asserted_count (node_at nodes k)) (first_root (asserts nodes k) 0 roots)
    ++ (times_when (is_among k p.denied) (denied_count (node_at nodes k)) (first_root (denies nodes k) 0 roots)
    ++ times_when (is_among k inner) (inner_clause_count (node_at nodes k)) None)

abbrev pub sources_below : List NodeValue → List ℕ → Polarity → List ℕ → ℕ → List (Option ℕ)
sources_below nodes roots p inner zero = []
sources_below nodes roots p inner (suc k) = sources_below nodes roots p inner k ++ node_sources nodes roots p inner k

-- for each clause of the clause form its source, a number of a root
unfoldable pub sources_of : List NodeValue → List ℕ → List (Option ℕ)
sources_of nodes roots =
    sources_below nodes roots (polarity_of nodes roots) (inner_nodes nodes (polarity_of nodes roots)) (length nodes)
