-- What is left of a slice's lemmas.
use Rattle.std.specs.Prelude.{◌≡◌, ℕ, ◌<◌, ◌≤◌, Bool, true, false, List, length, Option, Some, slice_index_or}
use Rattle.refute_tree.specs.declared.lemma.Lemma.{Lemma}
use Rattle.refute_tree.specs.Batches.{LemmaBatch}
use Rattle.trim_lemmas.specs.declared.trimming.TrimmedBatch.{TrimmedBatch}
use Rattle.branch_search.specs.declared.divide.Division.{Division}
use Rattle.branch_search.specs.declared.divide.Division.TheVariants.{Split}
use Rattle.branch_search.specs.declared.answer.Slice.{Slice}
use Rattle.branch_search.specs.declared.answer.Slice.TheVariants.{Model as AsModel, Refuted as AsRefuted}
use Rattle.branch_search.specs.declared.answer.Slice.TheVariants.{Split as AsSplit}
use Rattle.branch_search.specs.declared.answer.Part.{Part}
use Rattle.branch_search.specs.declared.answer.Part.TheVariants.{Ended, Paused}
use Rattle.trim_lemmas.specs.Trimming.{StaysRefuted, StaysOver, StaysStated}

abbrev pub own_batch : ℕ → List Lemma → LemmaBatch
own_batch seen own = record { seen = seen; lemmas = own }

-- they are refuted as they were, over the first `seen` lemmas, and the one that was found is among them
pub record IsLeft (seen : ℕ) (own : List Lemma) (found : Option ℕ) (left : TrimmedBatch) : Type 0 where
  pub seen_same : left.batch.seen ≡ seen
  pub each : length left.needed.items ≡ length own
  pub refuted : StaysRefuted (own_batch seen own) left.batch
  pub over : StaysOver own left.batch.lemmas
  pub stated : StaysStated left.needed.items own left.batch.lemmas
  pub found_too : (j : ℕ) → j < length own → found ≡ Some j → slice_index_or left.needed.items j false ≡ true

-- a split is answered where the cube comes to one
abbrev pub IsOfKind : Division → Slice → Type 0
IsOfKind division (AsModel schedule batch) = Unit {0}
IsOfKind division (AsRefuted batch j) = Unit {0}
IsOfKind division (AsSplit l batch) = division ≡ Split l

-- there is a pause only where there may be
abbrev pub MayPause : Bool → Part → Type 0
MayPause pauses (Ended slice) = Unit {0}
MayPause pauses (Paused batch) = pauses ≡ true

-- a split comes only where the count of adds has reached the target
abbrev pub IsSplitBehind : ℕ → ℕ → Slice → Type 0
IsSplitBehind target adds (AsModel schedule batch) = Unit {0}
IsSplitBehind target adds (AsRefuted batch j) = Unit {0}
IsSplitBehind target adds (AsSplit l batch) = target ≤ adds
