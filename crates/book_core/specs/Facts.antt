-- What always holds in a run.
use Rattle.std.specs.Prelude.{◌≡◌, ◌≢◌, ℕ, ℤ, AllPairs, List, [], map, All, Some, IfSome}
use Rattle.stn_core.specs.declared.literal.Literal.{Literal}
use Rattle.stn_core.specs.declared.problem.Problem.{Problem}
use Rattle.stn_core.specs.Literal.{negation_of}
use Rattle.refute_tree.specs.declared.lemma.Lemma.{Lemma}
use Rattle.refute_tree.specs.Trees.{stated}
use Rattle.refute_tree.specs.Batches.{AreRefuted, LemmaIsOver}
use Rattle.cover_tree.specs.declared.node.Node.TheVariants.{Shut}
use Rattle.cover_tree.specs.Covers.{Cubes, IsCover, node_at, cube_at}
use Rattle.cover_tree.specs.Partition.{IsInOne}
use Rattle.book_core.specs.declared.event.Event.{Event}
use Rattle.book_core.specs.Books.{State, IsOpening, IsDecidable, IsShutBy, IsDone, IsAllowed, after}
use Rattle.stn_core.specs.Solution.{IsSolution}
use Rattle.book_core.specs.Runs.{IsRun, replayed}

-- two literals of which neither is the other, nor its negation
abbrev pub IsApart : Literal → Literal → Type 0
IsApart l m = (l ≢ m) × (negation_of l ≢ m)

-- each Shut leaf's lemma excludes its cube
abbrev pub AreShut : Cubes → List (List Literal) → Type 0
AreShut c clauses = (k j : ℕ) → node_at c k ≡ Some (Shut j) → IsShutBy clauses (cube_at c k) j

pub record IsSound (problem : Problem) (s : State) : Type 0 where
  pub cover : IsCover s.cover
  pub decided : (k : ℕ) → All (IsDecidable problem) (cube_at s.cover k)
  pub apart : (k : ℕ) → AllPairs IsApart (cube_at s.cover k)
  pub refuted : AreRefuted problem.points problem.clauses [] s.lemmas
  pub over : All (LemmaIsOver problem.points) s.lemmas
  pub shut : AreShut s.cover (map stated s.lemmas)
  pub found : IfSome s.found (IsSolution problem)

-- what always holds, holds after every run
abbrev pub SoundLaw : Type 0
SoundLaw =
    (problem : Problem) (opening : List Lemma) (events : List Event) → IsOpening problem opening → IsRun problem opening events
    → IsSound problem (replayed opening events)

-- and every list of point values satisfies exactly one leaf's cube
abbrev pub DividedLaw : Type 0
DividedLaw =
    (problem : Problem) (opening : List Lemma) (events : List Event) → IsOpening problem opening → IsRun problem opening events
    → (values : List ℤ) → IsInOne values (replayed opening events).cover

-- Done is kept by every later event
abbrev pub DoneKeptLaw : Type 0
DoneKeptLaw =
    (problem : Problem) (s : State) (e : Event) → IsDone s → IsAllowed problem s e → IsDone (after s e)
