-- A book's state, when an event may come, and what it makes of the state.
--
-- How seats take cubes and give them back is this project's own; cover_tree names the source of the division.
use Rattle.std.specs.Prelude.{◌≡◌, ◌⊎◌, ℕ, ◌≤◌, List, [], ◌++◌, length, map, take, All, Contains, Option, Some, None, IsSome, slice_get, ℤ}
use Rattle.stn_core.specs.declared.literal.Literal.{Literal}
use Rattle.stn_core.specs.declared.problem.Problem.{Problem}
use Rattle.stn_core.specs.Literal.{negation_of}
use Rattle.stn_core.specs.Solution.{IsSolution, IsAtom}
use Rattle.refute_tree.specs.declared.lemma.Lemma.{Lemma}
use Rattle.refute_tree.specs.Trees.{IsDenied, stated}
use Rattle.refute_tree.specs.Moves.{moved_number}
use Rattle.refute_tree.specs.Batches.{LemmaBatch, AreRefuted, LemmaIsOver, moved}
use Rattle.cover_tree.specs.declared.node.Node.TheVariants.{Free, Held, Shut}
use Rattle.cover_tree.specs.Covers.{Cubes, whole, with_node, divided, node_at, cube_at, NoneFree, NoneHeld}
use Rattle.book_core.specs.declared.event.Event.{Event}
use Rattle.book_core.specs.declared.event.Event.TheVariants.{Take, Deliver, Release}
use Rattle.book_core.specs.declared.event.Taken.{Taken}
use Rattle.book_core.specs.declared.event.Taken.TheVariants.{Done, Idle, Cube}
use Rattle.book_core.specs.declared.event.Outcome.{Outcome}
use Rattle.book_core.specs.declared.event.Outcome.TheVariants.{Found, Shut as ShutBy, Split as SplitBy, Open}

-- the cover, the lemmas, and the schedule that was found first
pub record State : Type 0 where
  pub cover : Cubes
  pub lemmas : List Lemma
  pub found : Option (List ℤ)

abbrev pub state_with : Cubes → List Lemma → Option (List ℤ) → State
state_with cover lemmas found = record { cover = cover; lemmas = lemmas; found = found }

-- one Free leaf, and the lemmas that the book opens with
abbrev pub opened : List Lemma → State
opened lemmas = state_with whole lemmas None

-- what a book may open with: each lemma is refuted over the problem and those before it, and within the limits
pub record IsOpening (problem : Problem) (lemmas : List Lemma) : Type 0 where
  pub refuted : AreRefuted problem.points problem.clauses [] lemmas
  pub over : All (LemmaIsOver problem.points) lemmas

-- a schedule is found, or every leaf is Shut
abbrev pub IsDone : State → Type 0
IsDone s = IsSome s.found ⊎ (NoneFree s.cover × NoneHeld s.cover)

-- the literal or its negation is
abbrev pub IsDecidable : Problem → Literal → Type 0
IsDecidable problem l = IsAtom problem l ⊎ IsAtom problem (negation_of l)

-- neither the literal nor its negation is in the cube
abbrev pub IsUndecided : List Literal → Literal → Type 0
IsUndecided cube l = (Contains cube l → ⊥) × (Contains cube (negation_of l) → ⊥)

-- the lemma with this number excludes the cube: each literal of its clause is denied by one of the cube
abbrev pub IsShutBy : List (List Literal) → List Literal → ℕ → Type 0
IsShutBy clauses cube j = (clause : List Literal) × (slice_get clauses j ≡ Some clause) × IsDenied cube clause

-- what the outcome says of the cube, where these lemmas are known
abbrev pub Fits : Problem → List Lemma → List Literal → Outcome → Type 0
Fits problem lemmas cube (Found values) = IsSolution problem values
Fits problem lemmas cube (ShutBy j) = IsShutBy (map stated lemmas) cube j
Fits problem lemmas cube (SplitBy l) = IsDecidable problem l × IsUndecided cube l
Fits problem lemmas cube Open = Unit {0}

-- A delivery is justified over the lemmas that are known: the batch was made over the first of these, each of
-- its lemmas is refuted over them and those before it, its literals are within the limits, and the outcome
-- holds of the cube. (The literals of a cycle are among those assumed, so that their limits follow.)
pub record IsJustified (problem : Problem) (lemmas : List Lemma) (cube : List Literal) (batch : LemmaBatch)
    (outcome : Outcome) : Type 0 where
  pub seen : batch.seen ≤ length lemmas
  pub refuted : AreRefuted problem.points problem.clauses (map stated (take batch.seen lemmas)) batch.lemmas
  pub over : All (LemmaIsOver problem.points) batch.lemmas
  pub fits : Fits problem (take batch.seen lemmas ++ batch.lemmas) cube outcome

-- the seat holds the leaf with this number
abbrev pub IsHeldBy : State → ℕ → ℕ → Type 0
IsHeldBy s id seat = node_at s.cover id ≡ Some (Held seat)

-- the delivery is justified in the state, of the leaf with this number
abbrev pub IsJustifiedIn : Problem → State → ℕ → LemmaBatch → Outcome → Type 0
IsJustifiedIn problem s id batch outcome = IsJustified problem s.lemmas (cube_at s.cover id) batch outcome

-- what a `take` may be answered: Done where a schedule is found or all leaves are Shut; else some Free leaf;
-- else Idle, where some leaf is Held
abbrev pub MayAnswer : State → Taken → Type 0
MayAnswer s Done = IsDone s
MayAnswer s Idle = (s.found ≡ None) × NoneFree s.cover × ((id : ℕ) × (seat : ℕ) × IsHeldBy s id seat)
MayAnswer s (Cube id) = (s.found ≡ None) × (node_at s.cover id ≡ Some Free)

-- when the event may come
abbrev pub IsAllowed : Problem → State → Event → Type 0
IsAllowed problem s (Take seat taken) = MayAnswer s taken
IsAllowed problem s (Deliver seat id batch outcome) =
    IsHeldBy s id seat × IsJustifiedIn problem s id batch outcome
IsAllowed problem s (Release seat id) = IsHeldBy s id seat

-- the cover after a `take`
abbrev pub cover_taken : Cubes → ℕ → Taken → Cubes
cover_taken c seat Done = c
cover_taken c seat Idle = c
cover_taken c seat (Cube id) = with_node c id (Held seat)

-- the cover after a delivery whose batch, made over `seen` lemmas, comes behind `count` ones: a found
-- schedule frees the leaf, a lemma shuts it, a literal divides it, and it is free again where nothing is said of it
abbrev pub cover_delivered : Cubes → ℕ → ℕ → ℕ → Outcome → Cubes
cover_delivered c id seen count (Found values) = with_node c id Free
cover_delivered c id seen count (ShutBy j) = with_node c id (Shut (moved_number seen count j))
cover_delivered c id seen count (SplitBy l) = divided c id l
cover_delivered c id seen count Open = with_node c id Free

-- the schedule that was found first stays
abbrev pub first_found : Option (List ℤ) → List ℤ → Option (List ℤ)
first_found None values = Some values
first_found (Some first) values = Some first

abbrev pub found_delivered : Option (List ℤ) → Outcome → Option (List ℤ)
found_delivered found (Found values) = first_found found values
found_delivered found outcome = found

-- the batch's lemmas stand behind those that are there
abbrev pub lemmas_delivered : List Lemma → LemmaBatch → List Lemma
lemmas_delivered lemmas batch = lemmas ++ (moved (length lemmas) batch).lemmas

-- the state after the event
abbrev pub after : State → Event → State
after s (Take seat taken) = state_with (cover_taken s.cover seat taken) s.lemmas s.found
after s (Deliver seat id batch outcome) = record {
  cover = cover_delivered s.cover id batch.seen (length s.lemmas) outcome;
  lemmas = lemmas_delivered s.lemmas batch;
  found = found_delivered s.found outcome;
}
after s (Release seat id) = state_with (with_node s.cover id Free) s.lemmas s.found
