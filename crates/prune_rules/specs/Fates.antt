use Rattle.std.specs.Prelude.{◌≡◌, ◌<◌, ℕ, List, [], ◌∷◌, ◌++◌, length, slice_index_or, Option, Some, None, ℤ}
use Rattle.stn_core.specs.declared.literal.Literal.{Literal}
use Rattle.stn_core.specs.Answer.{IsCycleAmong}
use Rattle.stn_core.specs.Literal.{Holds, negation_of, literal_at}
use Rattle.stn_core.specs.Net.{IsConsistent}
use Rattle.stn_core.specs.Schedule.{IsSchedule}
use Rattle.prune_rules.specs.declared.fate.Fate.{Fate}
use Rattle.prune_rules.specs.declared.fate.Fate.TheVariants.{Live, Dead}
use Rattle.prune_rules.specs.declared.fate.Subsumed.{Subsumed}

-- a network with the literal more is consistent, or has the negative cycle
-- (forward checking: Tsamardinos, Pollack 2003, section 4)
abbrev pub IsFate : ℕ → List Literal → Literal → Fate → Type 0
IsFate points literals l Live = IsConsistent points (literals ++ l ∷ [])
IsFate points literals l (Dead cycle) = IsCycleAmong (literals ++ l ∷ []) cycle

-- one fate for each literal of the clause, in order
pub record AreFates (points : ℕ) (literals clause : List Literal) (fates : List Fate) : Type 0 where
  pub count : length fates ≡ length clause
  pub each : (k : ℕ) → k < length clause → IsFate points literals (literal_at clause k) (slice_index_or fates k Live)

-- on each schedule of the literals the other literal holds too
abbrev pub Implies : ℕ → List Literal → Literal → Type 0
Implies points literals l = (values : List ℤ) → IsSchedule points literals values → Holds values l

-- the literal at the place is the first that is implied, as a negative cycle with its negation shows
-- (removal of subsumed variables: Tsamardinos, Pollack 2003, section 4)
pub record IsSubsumedBy (points : ℕ) (literals clause : List Literal) (found : Subsumed) : Type 0 where
  pub within : found.place < length clause
  pub implied : Implies points literals (literal_at clause found.place)
  pub cycle : IsCycleAmong (literals ++ negation_of (literal_at clause found.place) ∷ []) found.cycle
  pub first : (k : ℕ) → k < found.place → Implies points literals (literal_at clause k) → ⊥

-- no literal of the clause is implied: the literals are consistent with the negation of each
pub record NoneImplied (points : ℕ) (literals clause : List Literal) : Type 0 where
  pub consistent : (k : ℕ) → k < length clause → IsConsistent points (literals ++ negation_of (literal_at clause k) ∷ [])
  pub not_implied : (k : ℕ) → k < length clause → Implies points literals (literal_at clause k) → ⊥

-- the first literal that is implied, or none is
abbrev pub IsFirstImplied : ℕ → List Literal → List Literal → Option Subsumed → Type 0
IsFirstImplied points literals clause None = NoneImplied points literals clause
IsFirstImplied points literals clause (Some found) = IsSubsumedBy points literals clause found
