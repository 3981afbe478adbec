-- What a fault says of a delivery.
use Rattle.std.specs.Prelude.{◌≡◌, ◌<◌, List, ◌++◌, length, map, take, All, Option, Some, None}
use Rattle.stn_core.specs.declared.literal.Literal.{Literal}
use Rattle.stn_core.specs.declared.problem.Problem.{Problem}
use Rattle.refute_tree.specs.declared.lemma.Lemma.{Lemma}
use Rattle.refute_tree.specs.Trees.{IsRefuted, stated}
use Rattle.refute_tree.specs.Batches.{LemmaBatch, AreRefuted, LemmaIsOver}
use Rattle.book_core.specs.declared.event.Outcome.{Outcome}
use Rattle.book_core.specs.declared.event.Outcome.TheVariants.{Found, Shut as ShutBy, Split as SplitBy, Open}
use Rattle.book_core.specs.Books.{Fits}
use Rattle.book_judge.specs.declared.judging.Fault.{Fault}
use Rattle.book_judge.specs.declared.judging.Fault.TheVariants.{NoSuchClause, BoundOutOfRange, NotRefuted, NotASchedule, DoesNotExclude, AlreadyDecided, OutOfMemory}

-- the fault of an outcome that doesn't hold of its cube, where it says something of it
abbrev pub fault_of : Outcome → Option Fault
fault_of (Found values) = Some NotASchedule
fault_of (ShutBy j) = Some DoesNotExclude
fault_of (SplitBy l) = Some AlreadyDecided
fault_of Open = None

-- the outcome doesn't hold of the cube where these lemmas are known, and this is the fault for it
abbrev pub Misfits : Problem → List Lemma → List Literal → Outcome → Fault → Type 0
Misfits problem known cube outcome fault = (fault_of outcome ≡ Some fault) × ¬ Fits problem known cube outcome

-- what a fault says of a delivery: each but want of memory denies a part of its justification
abbrev pub IsFaultOf : Problem → List Lemma → List Literal → LemmaBatch → Outcome → Fault → Type 0
IsFaultOf problem lemmas cube batch outcome NoSuchClause = length lemmas < batch.seen
IsFaultOf problem lemmas cube batch outcome BoundOutOfRange = ¬ All (LemmaIsOver problem.points) batch.lemmas
IsFaultOf problem lemmas cube batch outcome (NotRefuted kind) =
    ¬ AreRefuted problem.points problem.clauses (map stated (take batch.seen lemmas)) batch.lemmas
IsFaultOf problem lemmas cube batch outcome NotASchedule =
    Misfits problem (take batch.seen lemmas ++ batch.lemmas) cube outcome NotASchedule
IsFaultOf problem lemmas cube batch outcome DoesNotExclude =
    Misfits problem (take batch.seen lemmas ++ batch.lemmas) cube outcome DoesNotExclude
IsFaultOf problem lemmas cube batch outcome AlreadyDecided =
    Misfits problem (take batch.seen lemmas ++ batch.lemmas) cube outcome AlreadyDecided
IsFaultOf problem lemmas cube batch outcome OutOfMemory = Unit {0}

-- of the code: what a fault says of one lemma over the earlier clauses
abbrev pub IsFaultOfLemma : Problem → List (List Literal) → Lemma → Fault → Type 0
IsFaultOfLemma problem earlier lemma NoSuchClause = ⊥
IsFaultOfLemma problem earlier lemma BoundOutOfRange = ¬ LemmaIsOver problem.points lemma
IsFaultOfLemma problem earlier lemma (NotRefuted kind) = ¬ IsRefuted problem.points problem.clauses earlier lemma
IsFaultOfLemma problem earlier lemma NotASchedule = ⊥
IsFaultOfLemma problem earlier lemma DoesNotExclude = ⊥
IsFaultOfLemma problem earlier lemma AlreadyDecided = ⊥
IsFaultOfLemma problem earlier lemma OutOfMemory = Unit {0}

-- of the code: the same of a batch's lemmas
abbrev pub IsFaultOfLemmas : Problem → List (List Literal) → List Lemma → Fault → Type 0
IsFaultOfLemmas problem earlier lemmas NoSuchClause = ⊥
IsFaultOfLemmas problem earlier lemmas BoundOutOfRange = ¬ All (LemmaIsOver problem.points) lemmas
IsFaultOfLemmas problem earlier lemmas (NotRefuted kind) = ¬ AreRefuted problem.points problem.clauses earlier lemmas
IsFaultOfLemmas problem earlier lemmas NotASchedule = ⊥
IsFaultOfLemmas problem earlier lemmas DoesNotExclude = ⊥
IsFaultOfLemmas problem earlier lemmas AlreadyDecided = ⊥
IsFaultOfLemmas problem earlier lemmas OutOfMemory = Unit {0}
