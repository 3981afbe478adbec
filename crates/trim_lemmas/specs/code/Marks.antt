-- Of the code and not of the meaning: how the needed lemmas are found, and their places.
use Rattle.std.specs.Prelude.{◌≡◌, ◌+◌, ◌-◌, ℕ, zero, suc, Bool, true, false, nat_lt, if◌then◌else◌, List, [], ◌∷◌, length, map, slice_index_or, slice_set}
use Rattle.refute_tree.specs.declared.step.Step.{Step}
use Rattle.refute_tree.specs.declared.step.Step.TheVariants.{Lemma as Earlier}
use Rattle.refute_tree.specs.declared.lemma.Lemma.{Lemma}
use Rattle.refute_tree.specs.Moves.{listed_number, named_step}
use Rattle.trim_lemmas.specs.declared.places.Places.{Places}
use Rattle.trim_lemmas.specs.Trimming.{place}

-- what a step cites of the list's lemmas before this number is marked too
abbrev pub marked_number : ℕ → ℕ → List Bool → List Bool
marked_number number j needed = if nat_lt j number then slice_set needed j true else needed

abbrev pub marked_step : ℕ → ℕ → Step → List Bool → List Bool
marked_step seen number (Earlier j) needed = if nat_lt j seen then needed else marked_number number (j - seen) needed
marked_step seen number step needed = needed

abbrev pub marked : ℕ → ℕ → List Step → List Bool → List Bool
marked seen number [] needed = needed
marked seen number (step ∷ steps) needed = marked seen number steps (marked_step seen number step needed)

abbrev pub steps_at : List Lemma → ℕ → List Step
steps_at lemmas k = (slice_index_or lemmas k (record { clause = []; steps = [] })).steps

-- what the lemma of this number cites is marked too, if it is marked itself
abbrev pub marked_by : ℕ → List Lemma → ℕ → List Bool → List Bool
marked_by seen lemmas k needed =
    if slice_index_or needed k false then marked seen k (steps_at lemmas k) needed else needed

-- the same of each of the first so many lemmas, from the last of them to the first
abbrev pub swept : ℕ → ℕ → List Lemma → List Bool → List Bool
swept seen zero lemmas needed = needed
swept seen (suc k) lemmas needed = swept seen k lemmas (marked_by seen lemmas k needed)

abbrev pub with_last : List Bool → List Bool
with_last needed = slice_set needed (length needed - 1) true

-- the table has each lemma's number when only the needed ones are kept
abbrev pub ArePlaces : ℕ → List Bool → Places → Type 0
ArePlaces seen needed places =
    (places.seen ≡ seen) × ((j : ℕ) → slice_index_or places.numbers.items j places.end ≡ seen + place needed j)

abbrev pub number_by : Places → ℕ → ℕ
number_by places j = listed_number places.seen places.numbers.items places.end j

abbrev pub step_by : Places → Step → Step
step_by places step = named_step (number_by places) step

abbrev pub lemma_by : Places → Lemma → Lemma
lemma_by places lemma = record { clause = lemma.clause; steps = map (step_by places) lemma.steps }
