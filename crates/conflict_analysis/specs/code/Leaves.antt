-- Resolved literals whose reason isn't opened: where their negation is assumed, the clause that they follow from is denied.
use Rattle.std.specs.Prelude.{◌≡◌, ℕ, ◌<◌, ◌≤◌, List, length, Bool, true, false, slice_index, slice_index_or}
use Rattle.stn_core.specs.declared.literal.Literal.{Literal}
use Rattle.conflict_analysis.specs.declared.entry.Source.TheVariants.{Input as OfInput, Lemma as OfLemma}
use Rattle.conflict_analysis.specs.declared.entry.Reason.{Reason}
use Rattle.conflict_analysis.specs.declared.entry.Reason.TheVariants.{Given, Decision, Clause as ByClause}
use Rattle.conflict_analysis.specs.declared.entry.Reason.TheVariants.{Pair as ByPair, Cycle as ByCycle}
use Rattle.conflict_analysis.specs.declared.entry.Entry.{Entry}
use Rattle.conflict_analysis.specs.declared.entry.Conflict.{Conflict}
use Rattle.conflict_analysis.specs.declared.entry.Conflict.TheVariants.{Clause as OfClause, Cycle as OfCycle}
use Rattle.conflict_analysis.specs.declared.entry.Role.{Role}
use Rattle.conflict_analysis.specs.declared.entry.Role.TheVariants.{Resolved}
use Rattle.conflict_analysis.specs.code.Graphs.{Graph}
use Rattle.conflict_analysis.specs.code.Trails.{entry_at, on_trail, pair_cycle, role_at, IsUsed, IsByClause, IsByCycle}
use Rattle.stn_core.specs.Literal.{literal_at}

-- whether the literal at a place stands at leaves alone
abbrev pub at_leaves : List Bool → ℕ → Bool
at_leaves leaves k = slice_index_or leaves k false

-- fewer literals stand at leaves
pub record IsFewer (old new : List Bool) : Type 0 where
  pub count : length new ≡ length old
  pub only : (j : ℕ) → at_leaves new j ≡ true → at_leaves old j ≡ true

-- the literal stands below a place, used, and the steps assume it in the cases behind it
abbrev pub StandsAssumed : List Entry → List Role → List Bool → ℕ → Literal → Type 0
StandsAssumed trail roles leaves below l =
    (j : ℕ) × (j < below) × IsUsed (role_at roles j) × (at_leaves leaves j ≡ false) × (on_trail trail j ≡ l)

-- a clause of the problem, whose other literals are denied by what is assumed
abbrev pub IsLeafReason : List (List Literal) → List (List Literal) → List Entry → List Role → List Bool → ℕ → Literal → Reason → Type 0
IsLeafReason inputs lemmas trail roles leaves k l Given = ⊥
IsLeafReason inputs lemmas trail roles leaves k l Decision = ⊥
IsLeafReason inputs lemmas trail roles leaves k l (ByClause (OfInput i) place) =
    IsByClause inputs lemmas (StandsAssumed trail roles leaves k) l (OfInput i) place
IsLeafReason inputs lemmas trail roles leaves k l (ByClause (OfLemma j) place) = ⊥
IsLeafReason inputs lemmas trail roles leaves k l (ByPair tighter) = ⊥
IsLeafReason inputs lemmas trail roles leaves k l (ByCycle cycle) = ⊥

abbrev pub AreLeaves : List (List Literal) → List (List Literal) → List Entry → List Role → List Bool → Type 0
AreLeaves inputs lemmas trail roles leaves =
    (k : ℕ) → at_leaves leaves k ≡ true
    → IsLeafReason inputs lemmas trail roles leaves k (on_trail trail k) (entry_at trail k).reason

-- roles and leaves for all of the trail, and what stands at leaves follows from what is assumed
abbrev pub IsOutline : Graph → List Role → List Bool → Type 0
IsOutline graph roles leaves =
    (length graph.trail ≤ length roles) × (length graph.trail ≤ length leaves)
    × AreLeaves graph.inputs graph.lemmas graph.trail roles leaves

-- what closes a cycle with the literal's negation is assumed
abbrev pub IsAssuming : List Entry → List Role → List Bool → ℕ → Literal → Reason → Type 0
IsAssuming trail roles leaves k l Given = Unit {0}
IsAssuming trail roles leaves k l Decision = Unit {0}
IsAssuming trail roles leaves k l (ByClause source place) = Unit {0}
IsAssuming trail roles leaves k l (ByPair tighter) =
    IsByCycle (StandsAssumed trail roles leaves k) l (pair_cycle tighter l)
IsAssuming trail roles leaves k l (ByCycle cycle) = IsByCycle (StandsAssumed trail roles leaves k) l cycle

-- the place is one of those passed from this index on
abbrev pub HasPassed : List ℕ → ℕ → ℕ → Type 0
HasPassed passed i k = (a : ℕ) × (i ≤ a) × (a < length passed) × (slice_index passed a ≡ k)

-- of the places from this index on it is chosen which stand at leaves
pub record IsChosen (inputs lemmas : List (List Literal)) (trail : List Entry) (roles : List Role) (passed : List ℕ)
    (i : ℕ) (leaves : List Bool) : Type 0 where
  pub count : length trail ≤ length leaves
  pub behind : (k : ℕ) → at_leaves leaves k ≡ true → HasPassed passed i k
  pub reasons : AreLeaves inputs lemmas trail roles leaves
  pub assuming : (k : ℕ) → HasPassed passed i k → role_at roles k ≡ Resolved → at_leaves leaves k ≡ false
      → IsAssuming trail roles leaves k (on_trail trail k) (entry_at trail k).reason

-- a cycle's literals are assumed
abbrev pub IsAssumedConflict : List Entry → List Role → List Bool → Conflict → Type 0
IsAssumedConflict trail roles leaves (OfClause source) = Unit {0}
IsAssumedConflict trail roles leaves (OfCycle cycle) =
    (q : ℕ) → q < length cycle → StandsAssumed trail roles leaves (length trail) (literal_at cycle q)
