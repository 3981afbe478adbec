-- The clause form of asserted nodes: a Disjunctive Temporal Problem (Stergiou, Koubarakis 2000) over the zero point, the
-- declared names' points and a fresh point for each inner node. That an inner node with the fresh point f is true is said by
-- the literal (f 0 0).
use Rattle.std.specs.Prelude.{ℕ, zero, suc, ◌+◌, List, [], ◌∷◌, ◌++◌, map, length, Bool, true, false, if◌then◌else◌, pos, negsuc}
use Rattle.stn_core.specs.declared.literal.Literal.{Literal}
use Rattle.stn_core.specs.Literal.{negation_of}
use Rattle.idl_node.specs.Nodes.{NodeValue, always, atom, denial, conjunction, disjunction}
use Rattle.clause_form.specs.Polarity.{is_among, node_at, Polarity, polarity_of, inner_nodes}

-- how many of the nodes below k are inner
abbrev pub inner_count : List ℕ → ℕ → ℕ
inner_count inner zero = 0
inner_count inner (suc k) = if is_among k inner then inner_count inner k + 1 else inner_count inner k

-- (p 0 0): p is at most the zero point; and its negation
abbrev pub stands : ℕ → Literal
stands p = record { x = p; y = 0; c = pos 0 }

abbrev pub fails : ℕ → Literal
fails p = record { x = 0; y = p; c = negsuc 0 }

-- The fresh point of an inner node: these follow so many points, by ascending node numbers.
abbrev pub fresh_point : ℕ → List ℕ → ℕ → ℕ
fresh_point points inner k = points + inner_count inner k

-- the literal of a node that is no `not`
abbrev pub body_literal : ℕ → List ℕ → ℕ → NodeValue → Literal
body_literal points inner k always = stands 0
body_literal points inner k (atom l) = l
body_literal points inner k (denial m) = stands (fresh_point points inner k)
body_literal points inner k (conjunction ms) = stands (fresh_point points inner k)
body_literal points inner k (disjunction ms) = stands (fresh_point points inner k)

abbrev pub node_literal : ℕ → List NodeValue → List ℕ → ℕ → NodeValue → Literal
node_literal points nodes inner k (denial m) = negation_of (body_literal points inner m (node_at nodes m))
node_literal points nodes inner k node = body_literal points inner k node

-- the literal of node k, and its negation
abbrev pub literal_of : ℕ → List NodeValue → List ℕ → ℕ → Literal
literal_of points nodes inner k = node_literal points nodes inner k (node_at nodes k)

abbrev pub denied_literal : ℕ → List NodeValue → List ℕ → ℕ → Literal
denied_literal points nodes inner k = negation_of (literal_of points nodes inner k)

abbrev pub literals_of : ℕ → List NodeValue → List ℕ → List ℕ → List Literal
literals_of points nodes inner ms = map (literal_of points nodes inner) ms

abbrev pub denied_literals : ℕ → List NodeValue → List ℕ → List ℕ → List Literal
denied_literals points nodes inner ms = map (denied_literal points nodes inner) ms

-- the clauses of an asserted node
abbrev pub asserted_clauses : ℕ → List NodeValue → List ℕ → ℕ → NodeValue → List (List Literal)
asserted_clauses points nodes inner k always = (stands 0 ∷ []) ∷ []
asserted_clauses points nodes inner k (atom l) = (l ∷ []) ∷ []
asserted_clauses points nodes inner k (disjunction ms) = literals_of points nodes inner ms ∷ []
asserted_clauses points nodes inner k (conjunction ms) = []
asserted_clauses points nodes inner k (denial m) = []

-- the clauses of a denied node
abbrev pub denied_clauses : ℕ → List NodeValue → List ℕ → ℕ → NodeValue → List (List Literal)
denied_clauses points nodes inner k always = (negation_of (stands 0) ∷ []) ∷ []
denied_clauses points nodes inner k (atom l) = (negation_of l ∷ []) ∷ []
denied_clauses points nodes inner k (conjunction ms) = denied_literals points nodes inner ms ∷ []
denied_clauses points nodes inner k (disjunction ms) = []
denied_clauses points nodes inner k (denial m) = []

-- the clauses of an inner node with fresh point f: it is true exactly where its members say so
abbrev pub inner_clauses : ℕ → List NodeValue → List ℕ → ℕ → NodeValue → List (List Literal)
inner_clauses points nodes inner f (conjunction ms) =
    map (λ m. fails f ∷ literal_of points nodes inner m ∷ []) ms ++ (stands f ∷ denied_literals points nodes inner ms) ∷ []
inner_clauses points nodes inner f (disjunction ms) =
    (fails f ∷ literals_of points nodes inner ms) ∷ map (λ m. stands f ∷ denied_literal points nodes inner m ∷ []) ms
inner_clauses points nodes inner f always = []
inner_clauses points nodes inner f (atom l) = []
inner_clauses points nodes inner f (denial m) = []

abbrev pub when : Bool → List (List Literal) → List (List Literal)
when true clauses = clauses
when false clauses = []

-- the clauses of node k: where it is asserted, where it is denied, where it is inner
abbrev pub node_clauses : ℕ → List NodeValue → Polarity → List ℕ → ℕ → List (List Literal)
node_clauses points nodes p inner k =
    when (is_among k p.asserted) (asserted_clauses points nodes inner k (node_at nodes k))
    ++ (when (is_among k p.denied) (denied_clauses points nodes inner k (node_at nodes k))
    ++ when (is_among k inner) (inner_clauses points nodes inner (fresh_point points inner k) (node_at nodes k)))

-- the clauses of the nodes from 0 up to k - 1
abbrev pub clauses_below : ℕ → List NodeValue → Polarity → List ℕ → ℕ → List (List Literal)
clauses_below points nodes p inner zero = []
clauses_below points nodes p inner (suc k) = clauses_below points nodes p inner k ++ node_clauses points nodes p inner k

-- the clauses of all nodes, by ascending number, where the zero point and the names have so many points
unfoldable pub clauses_of : ℕ → List NodeValue → List ℕ → List (List Literal)
clauses_of points nodes roots =
    clauses_below points nodes (polarity_of nodes roots) (inner_nodes nodes (polarity_of nodes roots)) (length nodes)

-- how many points the problem has
unfoldable pub points_of : ℕ → List NodeValue → List ℕ → ℕ
points_of points nodes roots = fresh_point points (inner_nodes nodes (polarity_of nodes roots)) (length nodes)
