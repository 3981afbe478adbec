-- Of the code and not of the meaning: what the cube alone comes to.
use Rattle.std.specs.Prelude.{ℕ, ◌<◌, List, [], ◌∷◌, ◌++◌, length, Option, Some}
use Rattle.std.specs.Prelude.{None, slice_index_or}
use Rattle.stn_core.specs.declared.literal.Literal.{Literal}
use Rattle.stn_core.specs.declared.problem.Problem.{Problem}
use Rattle.stn_core.specs.Literal.{negation_of, literal_at}
use Rattle.stn_core.specs.Net.{IsConsistent}
use Rattle.stn_core.specs.Solution.{IsSolution, IsAtom}
use Rattle.refute_tree.specs.declared.lemma.Lemma.{Lemma}
use Rattle.conflict_analysis.specs.declared.entry.Entry.{Entry}
use Rattle.conflict_analysis.specs.declared.entry.Level.{Level}
use Rattle.branch_search.specs.declared.state.State.{State}
use Rattle.branch_search.specs.declared.divide.Division.{Division}
use Rattle.branch_search.specs.declared.divide.Division.TheVariants.{Model, Excluded, Split}
use Rattle.branch_search.specs.declared.divide.Live.{Live}
use Rattle.branch_search.specs.declared.divide.Live.TheVariants.{At, Nowhere}
use Rattle.conflict_analysis.specs.code.Denials.{AreDenied}
use Rattle.branch_search.specs.code.Search.{IsSearch, AreExcluding}
use Rattle.branch_search.specs.Slices.{Question, AreProved, IsSplit}

-- the literal at the place is consistent with the others
pub record IsLive (points : ℕ) (literals clause : List Literal) (place : ℕ) : Type 0 where
  pub within : place < length clause
  pub consistent : IsConsistent points (literals ++ literal_at clause place ∷ [])

abbrev pub IsLiveAt : ℕ → List Literal → List Entry → List Literal → Option ℕ → Type 0
IsLiveAt points literals entries clause None = AreDenied entries clause (length clause)
IsLiveAt points literals entries clause (Some place) = IsLive points literals clause place

-- the literal is in a clause of the problem, and both it and its negation are consistent with the others
pub record Divides (points : ℕ) (problem : Problem) (literals : List Literal) (l : Literal) : Type 0 where
  pub stated : IsAtom problem l
  pub with_it : IsConsistent points (literals ++ l ∷ [])
  pub against : IsConsistent points (literals ++ negation_of l ∷ [])

abbrev pub IsDivision : Question → List Lemma → Division → Type 0
IsDivision q own (Model schedule) = IsSolution q.problem schedule × AreProved q own
IsDivision q own (Excluded j) = AreExcluding q own j
IsDivision q own (Split l) = IsSplit q l × AreProved q own

-- the number of the lemma that excludes the cube
abbrev pub excluding : Division → Option ℕ
excluding (Model schedule) = None
excluding (Excluded j) = Some j
excluding (Split l) = None

-- the clause has a live literal, or a lemma excludes the cube
abbrev pub IsSearchLiveness : Question → List Lemma → List Entry → List Level → List Literal → ℕ → Live
    → Type 0
IsSearchLiveness q own entries levels literals i (At place) =
    IsSearch q own entries levels literals × IsLive q.problem.points literals (slice_index_or q.problem.clauses i []) place
IsSearchLiveness q own entries levels literals i (Nowhere j) = AreExcluding q own j

abbrev pub IsLiveness : Question → State → List Literal → ℕ → Live → Type 0
IsLiveness q s literals i live = IsSearchLiveness q s.own.items s.entries.items s.levels.items literals i live

-- all have
abbrev pub HasLive : ℕ → List Literal → List Literal → Type 0
HasLive points literals clause = (place : ℕ) × IsLive points literals clause place

abbrev pub AreSearchLive : Question → List Lemma → List Entry → List Level → List Literal → Option ℕ → Type 0
AreSearchLive q own entries levels literals None =
    IsSearch q own entries levels literals
    × ((i : ℕ) → i < length q.problem.clauses → HasLive q.problem.points literals (slice_index_or q.problem.clauses i []))
AreSearchLive q own entries levels literals (Some j) = AreExcluding q own j

abbrev pub AreLive : Question → State → List Literal → Option ℕ → Type 0
AreLive q s literals found = AreSearchLive q s.own.items s.entries.items s.levels.items literals found
