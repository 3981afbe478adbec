-- Steps whose references to lemmas are moved.
use Rattle.std.specs.Prelude.{ℕ, ◌+◌, ◌-◌, ◌<◌, ◌≤◌, List, nat_lt, if◌then◌else◌, slice_index_or}
use Rattle.refute_tree.specs.declared.step.Step.{Step}
use Rattle.refute_tree.specs.declared.step.Step.TheVariants.{Lemma as Earlier}
use Rattle.refute_tree.specs.Limits.{lemmas_limit}

-- a number below `seen` stays, and the others follow the first `base` lemmas
abbrev pub moved_number : ℕ → ℕ → ℕ → ℕ
moved_number seen base j = if nat_lt j seen then j else (j - seen) + base

-- the step, where a lemma is cited by another number
abbrev pub named_step : (ℕ → ℕ) → Step → Step
named_step number (Earlier j) = Earlier (number j)
named_step number step = step

abbrev pub moved_step : ℕ → ℕ → Step → Step
moved_step seen base step = named_step (moved_number seen base) step

-- what a reference moves to is within the limit
abbrev pub NumberMovesWithin : ℕ → ℕ → ℕ → Type 0
NumberMovesWithin seen base j = seen ≤ j → (j - seen) + base < lemmas_limit

abbrev pub MovesWithin : ℕ → ℕ → Step → Type 0
MovesWithin seen base (Earlier j) = NumberMovesWithin seen base j
MovesWithin seen base step = Unit {0}

-- a number below `seen` stays, and each of the others is the list's, or `end` where the list is shorter
abbrev pub listed_number : ℕ → List ℕ → ℕ → ℕ → ℕ
listed_number seen numbers end j = if nat_lt j seen then j else slice_index_or numbers (j - seen) end

abbrev pub NoneGrows : (ℕ → ℕ) → Type 0
NoneGrows number = (j : ℕ) → number j ≤ j
