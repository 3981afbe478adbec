-- The nodes of formulas over nodes that are there (SMT-LIB 2.6, theory Core). What a formula is made of is made in the
-- order in which it is written here; there is no node where the table is full on the way.
use Rattle.std.specs.Prelude.{ℕ, List, [], ◌∷◌, ◌++◌, map, Option, Some, None, slice_get}
use Rattle.stn_core.specs.Literal.{negation_of}
use Rattle.idl_node.specs.Nodes.{NodeValue, always, atom, denial, conjunction, disjunction, Placed, placed}

-- one making, and then another in the table that it leaves
abbrev pub then : Option Placed → (Placed → Option Placed) → Option Placed
then None next = None
then (Some p) next = next p

-- a node that is there
abbrev pub there : List NodeValue → ℕ → Option Placed
there nodes k = Some (record { nodes = nodes; number = k })

abbrev pub denied_by : Option NodeValue → List NodeValue → ℕ → Option Placed
denied_by (Some (atom l)) nodes k = placed nodes (atom (negation_of l))
denied_by (Some (denial m)) nodes k = there nodes m
denied_by _ nodes k = placed nodes (denial k)

-- `not`: of an atom the atom of the negation, of a `not` its member
abbrev pub denied : List NodeValue → ℕ → Option Placed
denied nodes k = denied_by (slice_get nodes k) nodes k

-- `and` and `or` of one or more; one gives itself
abbrev pub conjoined : List NodeValue → List ℕ → Option Placed
conjoined nodes (k ∷ []) = there nodes k
conjoined nodes members = placed nodes (conjunction members)

abbrev pub disjoined : List NodeValue → List ℕ → Option Placed
disjoined nodes (k ∷ []) = there nodes k
disjoined nodes members = placed nodes (disjunction members)

-- (or (not a) b)
abbrev pub not_or : List NodeValue → ℕ → ℕ → Option Placed
not_or nodes a b = then (denied nodes a) (λ p. placed p.nodes (disjunction (p.number ∷ b ∷ [])))

-- (or a (not b))
abbrev pub or_not : List NodeValue → ℕ → ℕ → Option Placed
or_not nodes a b = then (denied nodes b) (λ p. placed p.nodes (disjunction (a ∷ p.number ∷ [])))

-- (and a (not b))
abbrev pub and_not : List NodeValue → ℕ → ℕ → Option Placed
and_not nodes a b = then (denied nodes b) (λ p. placed p.nodes (conjunction (a ∷ p.number ∷ [])))

-- (and (not a) b)
abbrev pub not_and : List NodeValue → ℕ → ℕ → Option Placed
not_and nodes a b = then (denied nodes a) (λ p. placed p.nodes (conjunction (p.number ∷ b ∷ [])))

-- two formulas are equal: (and (or (not a) b) (or a (not b)))
abbrev pub equal : List NodeValue → ℕ → ℕ → Option Placed
equal nodes a b = then (not_or nodes a b) (λ p. then (or_not p.nodes a b) (λ q. placed q.nodes (conjunction (p.number ∷ q.number ∷ []))))

-- they differ: (or (and a (not b)) (and (not a) b))
abbrev pub different : List NodeValue → ℕ → ℕ → Option Placed
different nodes a b = then (and_not nodes a b) (λ p. then (not_and p.nodes a b) (λ q. placed q.nodes (disjunction (p.number ∷ q.number ∷ []))))

-- `ite`: (and (or (not c) a) (or c b))
abbrev pub chosen : List NodeValue → ℕ → ℕ → ℕ → Option Placed
chosen nodes c a b = then (not_or nodes c a) (λ p. then (placed p.nodes (disjunction (c ∷ b ∷ []))) (λ q. placed q.nodes (conjunction (p.number ∷ q.number ∷ []))))

-- `xor` of one or more, from the left
abbrev pub exclusive : List NodeValue → ℕ → List ℕ → Option Placed
exclusive nodes a [] = there nodes a
exclusive nodes a (b ∷ bs) = then (different nodes a b) (λ p. exclusive p.nodes p.number bs)

-- `=>` of one or more, where the members so far are those of an `or`: each but the last is denied
abbrev pub implied : List NodeValue → List ℕ → List ℕ → Option Placed
implied nodes members [] = disjoined nodes members
implied nodes members (a ∷ []) = disjoined nodes (members ++ a ∷ [])
implied nodes members (a ∷ b ∷ rest) = then (denied nodes a) (λ p. implied p.nodes (members ++ p.number ∷ []) (b ∷ rest))

-- the pairs of neighbours in a list
abbrev pub neighbours : {A : Type 0} → List A → List (A × A)
neighbours [] = []
neighbours (a ∷ []) = []
neighbours (a ∷ b ∷ rest) = (a, b) ∷ neighbours (b ∷ rest)

-- all pairs of a list, an item before those behind it
abbrev pub pairs : {A : Type 0} → List A → List (A × A)
pairs [] = []
pairs (a ∷ rest) = map (λ b. (a, b)) rest ++ pairs rest

-- `and` of what is made of each pair, in order, where these are the members so far
abbrev pub each_pair : (List NodeValue → ℕ → ℕ → Option Placed) → List NodeValue → List ℕ → List (ℕ × ℕ) → Option Placed
each_pair make nodes members [] = conjoined nodes members
each_pair make nodes members (p ∷ rest) = then (make nodes p.0 p.1) (λ q. each_pair make q.nodes (members ++ q.number ∷ []) rest)

-- `=` and `distinct` of two or more formulas
abbrev pub all_equal : List NodeValue → List ℕ → Option Placed
all_equal nodes members = each_pair equal nodes [] (neighbours members)

abbrev pub all_different : List NodeValue → List ℕ → Option Placed
all_different nodes members = each_pair different nodes [] (pairs members)

-- true, and false as not true
abbrev pub constant : List NodeValue → Option Placed
constant nodes = placed nodes always

abbrev pub falsehood : List NodeValue → Option Placed
falsehood nodes = then (constant nodes) (λ p. denied p.nodes p.number)
