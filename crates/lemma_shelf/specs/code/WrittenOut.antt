-- Of the code and not of the meaning: lemmas of the table by the numbers of one problem.
use Rattle.std.specs.Prelude.{◌≡◌, ℕ, ◌<◌, ◌≤◌, ◌-◌, List, [], ◌∷◌, ◌++◌, length, map, take, All, Contains, Option, Some, option_and_then, slice_get, slice_index_or}
use Rattle.std.specs.List.{AllZip}
use Rattle.stn_core.specs.declared.literal.Literal.{Literal}
use Rattle.stn_core.specs.Literal.{negation_of}
use Rattle.refute_tree.specs.declared.step.Step.{Step}
use Rattle.refute_tree.specs.declared.step.Step.TheVariants.{Cycle, Input, Lemma as Earlier, Clash, Either}
use Rattle.refute_tree.specs.declared.lemma.Lemma.{Lemma}
use Rattle.refute_tree.specs.Trees.{Tree, stated}
use Rattle.lemma_shelf.specs.code.Tables.{table_facts, facts_at, steps_at}

-- the lemma of this number is the root, or one that the root rests on
pub data RestsOn (lemmas : List Lemma) (root : ℕ) : ℕ → Type 0 where
  itself : RestsOn lemmas root root
  cited : {n j : ℕ} → RestsOn lemmas root n → Contains (steps_at lemmas n) (Earlier j) → RestsOn lemmas root j

-- the same step by the problem's numbers: a clause's number there, and of a lemma its place among those before
pub data IsPlaced (place : ℕ → Option ℕ) (before : List ℕ) : Step → Step → Type 0 where
  placed_input : {n i : ℕ} → place n ≡ Some i → IsPlaced place before (Input n) (Input i)
  placed_clash : {n i : ℕ} → place n ≡ Some i → IsPlaced place before (Clash n) (Clash i)
  placed_earlier : {n j : ℕ} → slice_get before j ≡ Some n → IsPlaced place before (Earlier n) (Earlier j)
  stays_cycle : {literals : List Literal} → IsPlaced place before (Cycle literals) (Cycle literals)
  stays_either : {l : Literal} → IsPlaced place before (Either l) (Either l)

abbrev pub ArePlaced : (ℕ → Option ℕ) → List ℕ → List Step → List Step → Type 0
ArePlaced place before steps others = AllZip (IsPlaced place before) steps others

-- such a step comes behind the others
abbrev pub AddsPlaced : (ℕ → Option ℕ) → List ℕ → Step → List Step → List Step → Type 0
AddsPlaced place before step made next = (other : Step) × (next ≡ made ++ other ∷ []) × IsPlaced place before step other

-- no number is above one behind it
abbrev pub Rises : List ℕ → Type 0
Rises xs = (i j : ℕ) → i ≤ j → j < length xs → slice_index_or xs i 0 ≤ slice_index_or xs j 0

-- each number is below those behind it
abbrev pub Mounts : List ℕ → Type 0
Mounts xs = (i j : ℕ) → i < j → j < length xs → slice_index_or xs i 0 < slice_index_or xs j 0

-- the table's lemma of this number, with its own clause, and its steps by the problem's numbers
pub record IsPlacedLemma (lemmas : List Lemma) (place : ℕ → Option ℕ) (before : List ℕ) (number : ℕ) (other : Lemma) : Type 0 where
  pub lemma : Lemma
  pub at : slice_get lemmas number ≡ Some lemma
  pub clause : other.clause ≡ lemma.clause
  pub steps : ArePlaced place before lemma.steps other.steps

-- the lemmas state over the problem's clauses what those with these numbers state on the table, each has a tree over those
-- before it, and cites of these those that the table's lemma cites
pub record AreWrittenOut (clauses book : List (List Literal)) (lemmas : List Lemma) (numbers : List ℕ) (made : List Lemma) : Type 0 where
  pub facts : table_facts clauses made ≡ facts_at (table_facts book lemmas) numbers
  pub tree : (j : ℕ) (lemma : Lemma) → slice_get made j ≡ Some lemma → Tree clauses (map stated (take j made)) (map negation_of lemma.clause) lemma.steps []
  pub cites : (k n m : ℕ) (lemma : Lemma) → slice_get made k ≡ Some lemma → slice_get numbers k ≡ Some n → Contains (steps_at lemmas n) (Earlier m)
      → (i : ℕ) × (slice_get numbers i ≡ Some m) × Contains lemma.steps (Earlier i)

-- all that the root rests on is written out, each lemma once, and the root as the last
pub record IsLowered (clauses book : List (List Literal)) (lemmas : List Lemma) (root : ℕ) (made : List Lemma) : Type 0 where
  pub numbers : List ℕ
  pub last : slice_get numbers (length numbers - 1) ≡ Some root
  pub rests : All (RestsOn lemmas root) numbers
  pub whole : (n : ℕ) → RestsOn lemmas root n → Contains numbers n
  pub mounts : Mounts numbers
  pub written : AreWrittenOut clauses book lemmas numbers made

-- the number of an entry's last item
abbrev pub last_of : List (List ℕ) → ℕ → Option ℕ
last_of entries entry = option_and_then (λ numbers. slice_get numbers (length numbers - 1)) (slice_get entries entry)
