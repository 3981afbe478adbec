-- The lemmas that some lemmas of a list need, and the list of these alone. A reference below `seen` is to a lemma
-- before the list, and seen + j is to the list's lemma of number j.
use Rattle.std.specs.Prelude.{◌≡◌, ◌<◌, ◌+◌, ◌-◌, ◌↔◌, ℕ, zero, suc, Bool, true, false, nat_lt, if◌then◌else◌, List, [], ◌∷◌, length, map, All, Contains, Option, Some, None, slice_get, slice_index_or}
use Rattle.std.specs.List.{items_where_true}
use Rattle.stn_core.specs.declared.literal.Literal.{Literal}
use Rattle.refute_tree.specs.declared.step.Step.{Step}
use Rattle.refute_tree.specs.declared.step.Step.TheVariants.{Lemma as Earlier}
use Rattle.refute_tree.specs.declared.lemma.Lemma.{Lemma}
use Rattle.refute_tree.specs.Trees.{IsRefutation}
use Rattle.refute_tree.specs.Batches.{LemmaBatch, AreRefuted, LemmaIsOver}

-- the lemma of number k cites the one of number j, which stands before it
pub record Cites (seen : ℕ) (lemmas : List Lemma) (k j : ℕ) : Type 0 where
  pub lemma : Lemma
  pub at : slice_get lemmas k ≡ Some lemma
  pub before : j < k
  pub cited : Contains lemma.steps (Earlier (seen + j))

-- a root is needed, and so is what a needed one cites
pub data IsNeeded (Root : ℕ → Type 0) (seen : ℕ) (lemmas : List Lemma) : ℕ → Type 0 where
  root : {k : ℕ} → k < length lemmas → Root k → IsNeeded Root seen lemmas k
  cited : {k j : ℕ} → IsNeeded Root seen lemmas k → Cites seen lemmas k j → IsNeeded Root seen lemmas j

-- for each lemma whether it is needed
pub record AreNeeded (Root : ℕ → Type 0) (seen : ℕ) (lemmas : List Lemma) (needed : List Bool) : Type 0 where
  pub one_each : length needed ≡ length lemmas
  pub right : (j : ℕ) → (slice_index_or needed j false ≡ true) ↔ IsNeeded Root seen lemmas j

-- the last lemma of a refutation is its root, and the wanted ones are those of a batch
abbrev pub IsLast : List Lemma → ℕ → Type 0
IsLast lemmas k = k + 1 ≡ length lemmas

abbrev pub IsWanted : List Bool → ℕ → Type 0
IsWanted wanted k = slice_index_or wanted k false ≡ true

-- how many needed ones stand before number j
abbrev pub place : List Bool → ℕ → ℕ
place [] j = 0
place needed zero = 0
place (true ∷ needed) (suc j) = suc (place needed j)
place (false ∷ needed) (suc j) = place needed j

-- the lemma, with references to the list's own by these places
abbrev pub renumbered_number : ℕ → List Bool → ℕ → ℕ
renumbered_number seen needed j = if nat_lt j seen then j else seen + place needed (j - seen)

abbrev pub renumbered_step : ℕ → List Bool → Step → Step
renumbered_step seen needed (Earlier j) = Earlier (renumbered_number seen needed j)
renumbered_step seen needed step = step

abbrev pub renumbered : ℕ → List Bool → Lemma → Lemma
renumbered seen needed lemma = record { clause = lemma.clause; steps = map (renumbered_step seen needed) lemma.steps }

-- the needed lemmas, in their order and numbered anew
abbrev pub shortened : ℕ → List Bool → List Lemma → List Lemma
shortened seen needed lemmas = map (renumbered seen needed) (items_where_true needed lemmas)

-- of a refutation those that its last lemma needs
pub record IsTrimmed (lemmas trimmed : List Lemma) : Type 0 where
  pub needed : List Bool
  pub are : AreNeeded (IsLast lemmas) 0 lemmas needed
  pub kept : trimmed ≡ shortened 0 needed lemmas

-- of a batch those that the wanted ones need
pub record IsTrimmedBatch (wanted : List Bool) (batch : LemmaBatch) (needed : List Bool) (trimmed : LemmaBatch) : Type 0 where
  pub are : AreNeeded (IsWanted wanted) batch.seen batch.lemmas needed
  pub seen : trimmed.seen ≡ batch.seen
  pub kept : trimmed.lemmas ≡ shortened batch.seen needed batch.lemmas

-- ---- what stays

abbrev pub StaysRefutation : List Lemma → List Lemma → Type 0
StaysRefutation lemmas trimmed =
    (points : ℕ) (clauses : List (List Literal)) → IsRefutation points clauses lemmas → IsRefutation points clauses trimmed

-- what is refuted over the lemmas before the list
abbrev pub StaysRefuted : LemmaBatch → LemmaBatch → Type 0
StaysRefuted batch trimmed =
    (points : ℕ) (clauses earlier : List (List Literal)) → length earlier ≡ batch.seen
    → AreRefuted points clauses earlier batch.lemmas → AreRefuted points clauses earlier trimmed.lemmas

abbrev pub StaysOver : List Lemma → List Lemma → Type 0
StaysOver lemmas trimmed = (points : ℕ) → All (LemmaIsOver points) lemmas → All (LemmaIsOver points) trimmed

-- a needed lemma states at its place what it stated
abbrev pub StaysStated : List Bool → List Lemma → List Lemma → Type 0
StaysStated needed lemmas trimmed =
    (j : ℕ) (lemma : Lemma) → slice_get lemmas j ≡ Some lemma → slice_index_or needed j false ≡ true
    → (other : Lemma) × (slice_get trimmed (place needed j) ≡ Some other) × (other.clause ≡ lemma.clause)

abbrev pub last_clause : List Lemma → Option (List Literal)
last_clause [] = None
last_clause (lemma ∷ []) = Some lemma.clause
last_clause (lemma ∷ other ∷ lemmas) = last_clause (other ∷ lemmas)
