-- Of the code and not of the meaning: how a shelf is kept. The clauses that lemmas rest on stand in one list, each once, the
-- book. The lemmas that are some entry's own stand in another, and their steps name clauses by their numbers in the book
-- and lemmas by their numbers in the list. An entry is a list of numbers of lemmas.
use Rattle.std.specs.Prelude.{◌≡◌, ◌⊎◌, ℕ, zero, suc, ◌+◌, ◌<◌, Bool, true, nat_le, is_some, option_and_then, List, [], ◌∷◌, ◌++◌, length, map, flat_map, take, All, Contains, Option, None, Some, MatchOption, ◌==◌, if◌then◌else◌, slice_get, slice_index_or}
use Rattle.std.specs.List.{list_all, list_any, AllZip}
use Rattle.stn_core.specs.declared.literal.Literal.{Literal}
use Rattle.stn_core.specs.Literal.{negation_of}
use Rattle.refute_tree.specs.declared.step.Step.{Step}
use Rattle.refute_tree.specs.declared.step.Step.TheVariants.{Cycle, Input, Lemma as Earlier, Clash, Either}
use Rattle.refute_tree.specs.declared.lemma.Lemma.{Lemma}
use Rattle.refute_tree.specs.Trees.{Tree, stated}
use Rattle.cert_check.specs.Tests.{is_on_points}
use Rattle.kept_lemmas.specs.declared.item.Kept.{Kept}
use Rattle.kept_lemmas.specs.declared.item.Item.{Item}
use Rattle.kept_lemmas.specs.declared.item.Item.TheVariants.{Own}
use Rattle.kept_lemmas.specs.Facts.{Fact, Facts, Shelf, no_fact, facts_of}
use Rattle.lemma_shelf.specs.Clauses.{is_clause_of}
use Rattle.lemma_shelf.specs.declared.trees.Trees.{Trees}
use Rattle.lemma_shelf.specs.declared.trees.Trees.TheVariants.{Held, LetGo}

abbrev pub own_item : Lemma → Item
own_item lemma = Own lemma

-- what the lemmas state over the book
abbrev pub table_facts : List (List Literal) → List Lemma → Facts
table_facts book lemmas = facts_of [] book (map own_item lemmas)

abbrev pub fact_at : Facts → ℕ → Fact
fact_at table number = slice_index_or table number no_fact

abbrev pub facts_at : Facts → List ℕ → Facts
facts_at table numbers = map (fact_at table) numbers

abbrev pub shelf_by : List (List Literal) → List Lemma → List (List ℕ) → Shelf
shelf_by book lemmas entries = map (facts_at (table_facts book lemmas)) entries

-- a step names clauses of the book and lemmas before this number alone
abbrev pub IsKnownStep : ℕ → ℕ → Step → Type 0
IsKnownStep clauses lemmas (Input i) = i < clauses
IsKnownStep clauses lemmas (Earlier j) = j < lemmas
IsKnownStep clauses lemmas (Clash i) = i < clauses
IsKnownStep clauses lemmas (Cycle cycle) = Unit {0}
IsKnownStep clauses lemmas (Either l) = Unit {0}

-- the lemma of this number names clauses of the book and lemmas before it alone; of the points that it and those that it
-- rests on name, so many is the least count
pub record IsOnTable (book : List (List Literal)) (lemmas : List Lemma) (points : List ℕ) (number : ℕ) (lemma : Lemma) : Type 0 where
  pub known : All (IsKnownStep (length book) number) lemma.steps
  pub needs : (count : ℕ) → list_all (is_on_points count) (fact_at (table_facts book lemmas) number).named ≡ nat_le (slice_index_or points number 0) count

pub record IsTable (book : List (List Literal)) (lemmas : List Lemma) (points : List ℕ) : Type 0 where
  pub each : (number : ℕ) (lemma : Lemma) → slice_get lemmas number ≡ Some lemma → IsOnTable book lemmas points number lemma
  pub one_each : length points ≡ length lemmas

-- each lemma is refuted by its steps, over the book and the lemmas before it
abbrev pub HaveTrees : List (List Literal) → List Lemma → Type 0
HaveTrees book lemmas =
    (number : ℕ) (lemma : Lemma) → slice_get lemmas number ≡ Some lemma
    → Tree book (map stated (take number lemmas)) (map negation_of lemma.clause) lemma.steps []

-- What is held of a lemma's steps: all of them, or those that name a clause, a lemma or a point. A cycle names none of
-- these: its literals are those of other steps and of the lemma's clause.
abbrev pub step_held : Trees → Step → List Step
step_held Held step = step ∷ []
step_held LetGo (Cycle cycle) = []
step_held LetGo (Input i) = Input i ∷ []
step_held LetGo (Earlier j) = Earlier j ∷ []
step_held LetGo (Clash i) = Clash i ∷ []
step_held LetGo (Either l) = Either l ∷ []

abbrev pub steps_held : Trees → List Step → List Step
steps_held trees steps = flat_map (step_held trees) steps

-- the number of a kept item's lemma
abbrev pub entry_of : List (List ℕ) → ℕ → Option (List ℕ)
entry_of entries zero = None
entry_of entries (suc k) = slice_get entries k

abbrev pub number_of : List (List ℕ) → Kept → Option ℕ
number_of entries kept = option_and_then (λ numbers. slice_get numbers kept.item) (entry_of entries kept.entry)

-- the clause has this number in the book now, and those before it have theirs
pub record HasClause (before : List (List Literal)) (clause : List Literal) (number : ℕ) (now : List (List Literal)) : Type 0 where
  pub more : List (List Literal)
  pub longer : now ≡ before ++ more
  pub at : slice_get now number ≡ Some clause

-- each of the numbers is below the count of those that came before, or is that count, and so one more
abbrev pub CountsTo : ℕ → List ℕ → ℕ → Type 0
CountsTo count [] now = count ≡ now
CountsTo count (n ∷ numbers) now =
    ((n < count) × CountsTo count numbers now) ⊎ ((n ≡ count) × CountsTo (count + 1) numbers now)

-- for each clause of the book a number that it has among a problem's clauses, if it is one of those seen so far
abbrev pub IsPresent : List (List Literal) → List (List Literal) → List (List Literal) → (ℕ → Option ℕ) → Type 0
IsPresent book clauses seen place =
    (number : ℕ) (clause : List Literal) → slice_get book number ≡ Some clause
    → MatchOption (place number) (Contains seen clause → ⊥) (λ i. slice_get clauses i ≡ Some clause)

abbrev pub with_number : List ℕ → ℕ → List ℕ
with_number numbers n = if list_any (λ m. n == m) numbers then numbers else numbers ++ n ∷ []

-- ---- the walk over what a lemma rests on

-- the clause that a step names, if it names one, is the problem's
abbrev pub step_passes : (ℕ → Option ℕ) → Step → Bool
step_passes place (Input i) = is_some (place i)
step_passes place (Clash i) = is_some (place i)
step_passes place (Earlier j) = true
step_passes place (Cycle cycle) = true
step_passes place (Either l) = true

-- and the lemma that it cites is reached
abbrev pub with_cited : List ℕ → Step → List ℕ
with_cited reached (Earlier j) = with_number reached j
with_cited reached step = reached

abbrev pub with_all_cited : List ℕ → List Step → List ℕ
with_all_cited reached [] = reached
with_all_cited reached (step ∷ steps) = with_all_cited (with_cited reached step) steps

abbrev pub steps_at : List Lemma → ℕ → List Step
steps_at lemmas number = (slice_index_or lemmas number (record { clause = []; steps = [] })).steps

abbrev pub StepIsClosed : (ℕ → Option ℕ) → List ℕ → Step → Type 0
StepIsClosed place reached (Input i) = is_some (place i) ≡ true
StepIsClosed place reached (Clash i) = is_some (place i) ≡ true
StepIsClosed place reached (Earlier j) = Contains reached j
StepIsClosed place reached (Cycle cycle) = Unit {0}
StepIsClosed place reached (Either l) = Unit {0}

-- the clauses that the lemma names are the problem's, and the lemmas that it cites are reached
abbrev pub IsClosed : List Lemma → (ℕ → Option ℕ) → List ℕ → ℕ → Type 0
IsClosed lemmas place reached number = All (StepIsClosed place reached) (steps_at lemmas number)

pub record AreClosed (lemmas : List Lemma) (place : ℕ → Option ℕ) (reached : List ℕ) : Type 0 where
  pub within : All (λ n. n < length lemmas) reached
  pub closed : All (IsClosed lemmas place reached) reached

-- whether what the lemma of this number rests on is all active
abbrev pub is_active : List (List Literal) → Facts → ℕ → Bool
is_active clauses table number = list_all (is_clause_of clauses) (fact_at table number).support

-- ---- a lemma that comes to the table

-- the same step by other numbers: a clause's number in the book, and of a lemma the one that its own number stands for
pub data IsRenumbered (clauses : List (List Literal)) (numbers : List ℕ) (book : List (List Literal)) : Step → Step → Type 0 where
  to_input : {i n : ℕ} {clause : List Literal} → slice_get clauses i ≡ Some clause → slice_get book n ≡ Some clause → IsRenumbered clauses numbers book (Input i) (Input n)
  to_clash : {i n : ℕ} {clause : List Literal} → slice_get clauses i ≡ Some clause → slice_get book n ≡ Some clause → IsRenumbered clauses numbers book (Clash i) (Clash n)
  to_earlier : {j n : ℕ} → slice_get numbers j ≡ Some n → IsRenumbered clauses numbers book (Earlier j) (Earlier n)
  keeps_cycle : {literals : List Literal} → IsRenumbered clauses numbers book (Cycle literals) (Cycle literals)
  keeps_either : {l : Literal} → IsRenumbered clauses numbers book (Either l) (Either l)

abbrev pub AreRenumbered : List (List Literal) → List ℕ → List (List Literal) → List Step → List Step → Type 0
AreRenumbered clauses numbers book steps others = AllZip (IsRenumbered clauses numbers book) steps others

-- a list begins as another
pub record BeginsAs {A : Type 0} (before now : List A) : Type 0 where
  pub more : List A
  pub longer : now ≡ before ++ more

abbrev pub CitesBelow : ℕ → Step → Type 0
CitesBelow count (Earlier n) = n < count
CitesBelow count (Input i) = Unit {0}
CitesBelow count (Clash i) = Unit {0}
CitesBelow count (Cycle cycle) = Unit {0}
CitesBelow count (Either l) = Unit {0}

-- whether so many time points are enough for what a step names
abbrev pub step_fits : List ℕ → ℕ → Step → Bool
step_fits points count (Either l) = is_on_points count l
step_fits points count (Earlier n) = nat_le (slice_index_or points n 0) count
step_fits points count (Input i) = true
step_fits points count (Clash i) = true
step_fits points count (Cycle cycle) = true

-- so many are the least that are enough
abbrev pub NeedsOf : ℕ → (ℕ → Bool) → Type 0
NeedsOf needs fits = (count : ℕ) → nat_le needs count ≡ fits count

-- what is held of a step, by the book's and the table's numbers, comes behind the others
abbrev pub AddsHeld : Trees → List (List Literal) → List ℕ → List (List Literal) → Step → List Step → List Step → Type 0
AddsHeld trees clauses numbers book step before after =
    (others : List Step) × (after ≡ before ++ others) × AreRenumbered clauses numbers book (step_held trees step) others

-- a step by the book's and the table's numbers comes behind the others
abbrev pub AddsStep : List (List Literal) → List ℕ → List (List Literal) → Step → List Step → List Step → Type 0
AddsStep clauses numbers book step before after =
    (other : Step) × (after ≡ before ++ other ∷ []) × IsRenumbered clauses numbers book step other
