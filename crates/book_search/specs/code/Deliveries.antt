-- Of the code and not of the meaning: from a slice's answer to a delivery, and from one turn to the next.
use Rattle.std.specs.Prelude.{◌≡◌, ◌<◌, ℕ, ℤ, List, map, Bool, Option, Some, None}
use Rattle.stn_core.specs.declared.literal.Literal.{Literal}
use Rattle.stn_core.specs.declared.problem.Problem.{Problem}
use Rattle.stn_core.specs.Solution.{IsSolution}
use Rattle.refute_tree.specs.declared.lemma.Lemma.{Lemma}
use Rattle.refute_tree.specs.Trees.{stated}
use Rattle.refute_tree.specs.Batches.{LemmaBatch}
use Rattle.branch_search.specs.declared.answer.Slice.{Slice}
use Rattle.branch_search.specs.declared.answer.Part.{Part}
use Rattle.branch_search.specs.Slices.{question_of, IsPart, IsSlice}
use Rattle.cover_tree.specs.Covers.{NoneHeld}
use Rattle.book_core.specs.declared.event.Outcome.{Outcome}
use Rattle.book_core.specs.declared.event.Event.TheVariants.{Deliver}
use Rattle.book_core.specs.Books.{IsJustified, IsDone}
use Rattle.book_core.specs.Runs.{Ledger, state_of, with_event}
use Rattle.book_core.specs.Ends.{left_in}

-- the delivery is justified wherever the slice is an answer
abbrev pub Delivers : Slice → LemmaBatch → Outcome → Type 0
Delivers slice batch outcome =
    (problem : Problem) (lemmas : List Lemma) (cube : List Literal)
    → IsSlice (question_of problem (map stated lemmas) cube) slice
    → IsJustified problem lemmas cube batch outcome

-- the same of a part of one
abbrev pub DeliversPart : Part → LemmaBatch → Outcome → Type 0
DeliversPart part batch outcome =
    (problem : Problem) (lemmas : List Lemma) (cube : List Literal)
    → IsPart (question_of problem (map stated lemmas) cube) part
    → IsJustified problem lemmas cube batch outcome

-- the delivery is justified wherever the values are a schedule
abbrev pub FindsIt : List ℤ → LemmaBatch → Outcome → Type 0
FindsIt values batch outcome =
    (problem : Problem) (lemmas : List Lemma) (cube : List Literal)
    → IsSolution problem values → IsJustified problem lemmas cube batch outcome

-- it is justified wherever the one before is and the values are a schedule
abbrev pub FindsInstead : LemmaBatch → Outcome → List ℤ → LemmaBatch → Outcome → Type 0
FindsInstead before was values batch outcome =
    (problem : Problem) (lemmas : List Lemma) (cube : List Literal)
    → IsJustified problem lemmas cube before was → IsSolution problem values → IsJustified problem lemmas cube batch outcome

-- the leaf's seat, number 0, delivered something
abbrev pub IsDelivered : Ledger → ℕ → Ledger → Type 0
IsDelivered old id new =
    (batch : LemmaBatch) × (outcome : Outcome) × (new ≡ with_event old (Deliver 0 id batch outcome))

-- the book has the problem, and no leaf is Held
pub record IsWaiting (problem : Problem) (b : Ledger) : Type 0 where
  pub problem_is : b.problem ≡ problem
  pub none_held : NoneHeld (state_of b).cover

-- after a turn less is left to do, or nothing
abbrev pub Advances : Ledger → Ledger → Option Bool → Type 0
Advances old new None = IsDone (state_of new)
Advances old new (Some divided) = left_in new < left_in old

-- the book has the problem, opened with these lemmas, and nothing is left to do
pub record IsEnded (problem : Problem) (opening : List Lemma) (b : Ledger) : Type 0 where
  pub problem_is : b.problem ≡ problem
  pub opening_is : b.opening ≡ opening
  pub done : IsDone (state_of b)
