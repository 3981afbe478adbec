-- Why a run in which all is delivered comes to its end: each delivery that says something of its cube leaves less to do.
use Rattle.std.specs.Prelude.{◌≡◌, ℕ, zero, suc, ◌+◌, ◌-◌, ◌<◌, ◌≤◌, List, [], ◌∷◌, length, flat_map, Option, Some, None, ℤ}
use Rattle.stn_core.specs.declared.literal.Literal.{Literal}
use Rattle.stn_core.specs.declared.problem.Problem.{Problem}
use Rattle.cover_tree.specs.declared.node.Node.{Node}
use Rattle.cover_tree.specs.declared.node.Node.TheVariants.{Free, Held, Shut, Split}
use Rattle.cover_tree.specs.Covers.{cube_at}
use Rattle.book_core.specs.declared.event.Event.{Event}
use Rattle.book_core.specs.declared.event.Event.TheVariants.{Take, Deliver, Release}
use Rattle.book_core.specs.declared.event.Outcome.{Outcome}
use Rattle.book_core.specs.declared.event.Outcome.TheVariants.{Found, Shut as ShutBy, Split as SplitBy, Open}
use Rattle.refute_tree.specs.declared.lemma.Lemma.{Lemma}
use Rattle.book_core.specs.Books.{State, opened, IsOpening, IsAllowed, after}
use Rattle.book_core.specs.Runs.{IsRun, replayed, Ledger, state_of}

-- the literals of all clauses
abbrev pub all_literals : Problem → List Literal
all_literals problem = flat_map (λ (clause : List Literal). clause) problem.clauses

-- a tree whose paths have at most so many branches has at most so many nodes
abbrev pub most_nodes : ℕ → ℕ
most_nodes zero = 1
most_nodes (suc branches) = 1 + (most_nodes branches + most_nodes branches)

-- the nodes that may still be dealt with at and below a node, where no cube has more than `most` literals
abbrev pub nodes_at : ℕ → List Literal → Node → ℕ
nodes_at most cube Free = most_nodes (most - length cube)
nodes_at most cube (Held seat) = most_nodes (most - length cube)
nodes_at most cube (Shut lemma) = 0
nodes_at most cube (Split l n) = 0

abbrev pub nodes_left : ℕ → List (List Literal) → List Node → ℕ
nodes_left most [] nodes = 0
nodes_left most (cube ∷ cubes) [] = 0
nodes_left most (cube ∷ cubes) (node ∷ nodes) = nodes_at most cube node + nodes_left most cubes nodes

-- the schedule that may still be found
abbrev pub schedules_left : Option (List ℤ) → ℕ
schedules_left None = 1
schedules_left (Some values) = 0

-- so many deliveries that say something of their cube may come at most until a schedule is found or all leaves are Shut
abbrev pub left_to_do : Problem → State → ℕ
left_to_do problem s =
    schedules_left s.found + nodes_left (length (all_literals problem)) s.cover.paths s.cover.nodes

abbrev pub left_in : Ledger → ℕ
left_in b = left_to_do b.problem (state_of b)

-- one more where the outcome says something of the cube
abbrev pub said_by : Outcome → ℕ
said_by (Found values) = 1
said_by (ShutBy j) = 1
said_by (SplitBy l) = 1
said_by Open = 0

-- a delivery that says something of its cube leaves less, any other event as much
abbrev pub Leaves : Event → ℕ → ℕ → Type 0
Leaves (Take seat taken) before now = now ≡ before
Leaves (Deliver seat id batch outcome) before now = (now + said_by outcome ≤ before) × (outcome ≡ Open → now ≡ before)
Leaves (Release seat id) before now = now ≡ before

-- each literal of a cube is decided once, so that no cube has more literals than all clauses together
abbrev pub ShortLaw : Type 0
ShortLaw =
    (problem : Problem) (opening : List Lemma) (events : List Event) → IsOpening problem opening → IsRun problem opening events
    → (k : ℕ) → length (cube_at (replayed opening events).cover k) ≤ length (all_literals problem)

-- and so, until a schedule is found, each delivery that says something leaves less to do: a split decides one more atom of
-- its cube
abbrev pub EndsLaw : Type 0
EndsLaw =
    (problem : Problem) (opening : List Lemma) (events : List Event) (e : Event) → IsOpening problem opening
    → IsRun problem opening events → IsAllowed problem (replayed opening events) e → (replayed opening events).found ≡ None
    → Leaves e (left_to_do problem (replayed opening events)) (left_to_do problem (after (replayed opening events) e))

-- how many deliveries there were that said something of their cube
abbrev pub deliveries : List Event → ℕ
deliveries [] = 0
deliveries (Take seat taken ∷ events) = deliveries events
deliveries (Deliver seat id batch outcome ∷ events) = said_by outcome + deliveries events
deliveries (Release seat id ∷ events) = deliveries events

-- so a run that has found no schedule has few of these
abbrev pub FewLaw : Type 0
FewLaw =
    (problem : Problem) (opening : List Lemma) (events : List Event) → IsOpening problem opening → IsRun problem opening events
    → (replayed opening events).found ≡ None
    → deliveries events + left_to_do problem (replayed opening events) ≤ left_to_do problem (opened opening)
