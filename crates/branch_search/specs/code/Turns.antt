-- Of the code and not of the meaning: the turns of a search, and how it ends.
use Rattle.std.specs.Prelude.{◌≡◌, ℕ, ◌<◌, ◌≤◌, ◌+◌, ◌*◌, List, length, Bool, true, Option, Some, None}
use Rattle.stn_core.specs.declared.literal.Literal.{Literal}
use Rattle.stn_core.specs.Solution.{IsSolution}
use Rattle.refute_tree.specs.declared.lemma.Lemma.{Lemma}
use Rattle.conflict_analysis.specs.declared.entry.Entry.{Entry}
use Rattle.conflict_analysis.specs.declared.entry.Level.{Level}
use Rattle.branch_search.specs.declared.state.State.{State}
use Rattle.branch_search.specs.declared.search.Found.{Found}
use Rattle.branch_search.specs.declared.search.Found.TheVariants.{Model, Excluded, Spent}
use Rattle.branch_search.specs.declared.search.Turn.{Turn}
use Rattle.branch_search.specs.declared.search.Turn.TheVariants.{Decided, Jumped, Ended}
use Rattle.branch_search.specs.code.Search.{IsSearch, AreExcluding}
use Rattle.branch_search.specs.Slices.{Question, AreProved}

abbrev pub AreFound : Question → List Lemma → Found → Type 0
AreFound q own (Model schedule) = IsSolution q.problem schedule × AreProved q own
AreFound q own (Excluded j) = AreExcluding q own j
AreFound q own Spent = AreProved q own

abbrev pub IsFound : Question → State → Found → Type 0
IsFound q s found = AreFound q s.own.items found

-- how the search ends, or that it pauses, where it may
abbrev pub AreFoundOrPaused : Question → List Lemma → Bool → Option Found → Type 0
AreFoundOrPaused q own pauses None = (pauses ≡ true) × AreProved q own
AreFoundOrPaused q own pauses (Some found) = AreFound q own found

abbrev pub IsFoundOrPaused : Question → State → Bool → Option Found → Type 0
IsFoundOrPaused q s pauses found = AreFoundOrPaused q s.own.items pauses found

-- a turn, where so many decisions were left and there were so many levels
abbrev pub IsSearchTurn : Question → ℕ → ℕ → List Lemma → List Entry → List Level → List Literal → Turn
    → Type 0
IsSearchTurn q left count own entries levels literals Decided =
    (0 < left) × (length levels ≤ count + 1) × IsSearch q own entries levels literals
IsSearchTurn q left count own entries levels literals Jumped =
    (length levels < count) × IsSearch q own entries levels literals
IsSearchTurn q left count own entries levels literals (Ended found) = AreFound q own found

abbrev pub IsTurn : Question → ℕ → ℕ → State → List Literal → Turn → Type 0
IsTurn q left count s literals turn =
    IsSearchTurn q left count s.own.items s.entries.items s.levels.items literals turn

-- a turn makes this less: it takes a decision, for which there may be one level more, or goes back over a
-- level
abbrev pub weight : ℕ → ℕ → ℕ
weight left count = 2 * left + count
