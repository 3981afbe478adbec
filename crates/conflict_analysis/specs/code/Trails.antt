-- The literals that a search assumes, each with the reason why it stands there, and which of them a conflict
-- rests on.
use Rattle.std.specs.Prelude.{◌≡◌, ◌≢◌, ◌⊎◌, ℕ, ◌<◌, ◌≤◌, List, [], ◌∷◌, length, Contains, pos}
use Rattle.std.specs.Prelude.{slice_index_or, Bool, true}
use Rattle.stn_core.specs.declared.literal.Literal.{Literal}
use Rattle.stn_core.specs.Literal.{negation_of, IsOver, literal_at}
use Rattle.stn_core.specs.Cycle.{IsNegativeCycle}
use Rattle.conflict_analysis.specs.declared.entry.Source.{Source}
use Rattle.conflict_analysis.specs.declared.entry.Source.TheVariants.{Input as OfInput, Lemma as OfLemma}
use Rattle.conflict_analysis.specs.declared.entry.Reason.{Reason}
use Rattle.conflict_analysis.specs.declared.entry.Reason.TheVariants.{Given, Decision, Clause as ByClause}
use Rattle.conflict_analysis.specs.declared.entry.Reason.TheVariants.{Pair as ByPair, Cycle as ByCycle}
use Rattle.conflict_analysis.specs.declared.entry.Entry.{Entry}
use Rattle.conflict_analysis.specs.declared.entry.Conflict.{Conflict}
use Rattle.conflict_analysis.specs.declared.entry.Conflict.TheVariants.{Clause as OfClause, Cycle as OfCycle}
use Rattle.conflict_analysis.specs.declared.entry.Role.{Role}
use Rattle.conflict_analysis.specs.declared.entry.Role.TheVariants.{Unused, Kept, Resolved}
use Rattle.conflict_analysis.specs.code.Graphs.{Graph}

abbrev pub no_literal : Literal
no_literal = record { x = 0; y = 0; c = pos 0 }

abbrev pub entry_at : List Entry → ℕ → Entry
entry_at trail k = slice_index_or trail k (record { literal = no_literal; number = 0; reason = Given })

-- the literal at a place of the trail
abbrev pub on_trail : List Entry → ℕ → Literal
on_trail trail k = (entry_at trail k).literal

-- the clause that is named, given the problem's and the lemmas'
abbrev pub source_clause : List (List Literal) → List (List Literal) → Source → List Literal
source_clause inputs lemmas (OfInput i) = slice_index_or inputs i []
source_clause inputs lemmas (OfLemma j) = slice_index_or lemmas j []

abbrev pub IsKnown : List (List Literal) → List (List Literal) → Source → Type 0
IsKnown inputs lemmas (OfInput i) = i < length inputs
IsKnown inputs lemmas (OfLemma j) = j < length lemmas

-- the literals that Good holds of make the literal at the place the clause's last hope
pub record IsByClause (inputs lemmas : List (List Literal)) (Good : Literal → Type 0) (l : Literal)
    (source : Source) (place : ℕ) : Type 0 where
  pub known : IsKnown inputs lemmas source
  pub within : place < length (source_clause inputs lemmas source)
  pub at : literal_at (source_clause inputs lemmas source) place ≡ l
  pub others : (q : ℕ) → q < length (source_clause inputs lemmas source) → q ≢ place
      → Good (negation_of (literal_at (source_clause inputs lemmas source) q))

-- the literal stands at the place of a clause that is named
pub record IsStatedAt (inputs lemmas : List (List Literal)) (l : Literal) (source : Source) (place : ℕ) : Type 0 where
  pub known : IsKnown inputs lemmas source
  pub within : place < length (source_clause inputs lemmas source)
  pub at : literal_at (source_clause inputs lemmas source) place ≡ l

-- with the literal's negation they have a negative cycle
pub record IsByCycle (Good : Literal → Type 0) (l : Literal) (cycle : List Literal) : Type 0 where
  pub negative : IsNegativeCycle cycle
  pub others : (q : ℕ) → q < length cycle → (literal_at cycle q ≡ negation_of l) ⊎ Good (literal_at cycle q)

-- a literal, and the negation of one that bounds the same points less tightly
abbrev pub pair_cycle : Literal → Literal → List Literal
pair_cycle tighter l = tighter ∷ negation_of l ∷ []

-- the literal follows from literals that Good holds of
abbrev pub Follows : List (List Literal) → List (List Literal) → (Literal → Type 0) → Literal → Reason
    → Type 0
Follows inputs lemmas Good l Given = ⊥
Follows inputs lemmas Good l Decision = ⊥
Follows inputs lemmas Good l (ByClause source place) = IsByClause inputs lemmas Good l source place
Follows inputs lemmas Good l (ByPair tighter) = IsByCycle Good l (pair_cycle tighter l)
Follows inputs lemmas Good l (ByCycle cycle) = IsByCycle Good l cycle

-- the literal stands on the trail below a place
abbrev pub Stands : List Entry → ℕ → Literal → Type 0
Stands trail below l = (j : ℕ) × (j < below) × (on_trail trail j ≡ l)

-- the reason of the literal at a place is a good one; of a clause nothing is said, since it is tested where a conflict comes to
-- rest on it
abbrev pub IsReason : List (List Literal) → List (List Literal) → List Literal → List Entry → ℕ → Literal
    → Reason → Type 0
IsReason inputs lemmas cube trail k l Given = Contains cube l
IsReason inputs lemmas cube trail k l Decision = Unit {0}
IsReason inputs lemmas cube trail k l (ByClause source place) = Unit {0}
IsReason inputs lemmas cube trail k l (ByPair tighter) = IsByCycle (Stands trail k) l (pair_cycle tighter l)
IsReason inputs lemmas cube trail k l (ByCycle cycle) = IsByCycle (Stands trail k) l cycle

-- each literal of the trail has its reason in the cube, in a choice, or in the literals before it
abbrev pub IsTrail : List (List Literal) → List (List Literal) → List Literal → List Entry → Type 0
IsTrail inputs lemmas cube trail =
    (k : ℕ) → k < length trail
    → IsReason inputs lemmas cube trail k (on_trail trail k) (entry_at trail k).reason

-- the graph's trail is a good one, for some cube
abbrev pub IsGrounded : Graph → Type 0
IsGrounded graph = (cube : List Literal) × IsTrail graph.inputs graph.lemmas cube graph.trail

-- literals that Good holds of can't all hold
abbrev pub IsConflict : List (List Literal) → List (List Literal) → (Literal → Type 0) → Conflict → Type 0
IsConflict inputs lemmas Good (OfClause source) =
    IsKnown inputs lemmas source
    × ((q : ℕ) → q < length (source_clause inputs lemmas source)
    → Good (negation_of (literal_at (source_clause inputs lemmas source) q)))
IsConflict inputs lemmas Good (OfCycle cycle) =
    IsNegativeCycle cycle × ((q : ℕ) → q < length cycle → Good (literal_at cycle q))

abbrev pub role_at : List Role → ℕ → Role
role_at roles k = slice_index_or roles k Unused

abbrev pub IsUsed : Role → Type 0
IsUsed Unused = ⊥
IsUsed Kept = Unit {0}
IsUsed Resolved = Unit {0}

-- the literal stands below a place, where it is used
abbrev pub StandsUsed : List Entry → List Role → ℕ → Literal → Type 0
StandsUsed trail roles below l = (j : ℕ) × (j < below) × IsUsed (role_at roles j) × (on_trail trail j ≡ l)

-- used literals are in conflict
abbrev pub IsUsedConflict : Graph → List Role → Conflict → Type 0
IsUsedConflict graph roles conflict =
    IsConflict graph.inputs graph.lemmas (StandsUsed graph.trail roles (length graph.trail)) conflict

-- the literal at a place follows from used ones before it
abbrev pub FollowsUsed : Graph → List Role → ℕ → Type 0
FollowsUsed graph roles k =
    Follows graph.inputs graph.lemmas (StandsUsed graph.trail roles k) (on_trail graph.trail k)
    (entry_at graph.trail k).reason

-- what a resolved literal follows from is used
abbrev pub IsClosed : List (List Literal) → List (List Literal) → List Entry → List Role → Type 0
IsClosed inputs lemmas trail roles =
    (k : ℕ) → role_at roles k ≡ Resolved
    → Follows inputs lemmas (StandsUsed trail roles k) (on_trail trail k) (entry_at trail k).reason

-- more literals are used, and none is resolved that wasn't; from a place on nothing changes
pub record IsMarkedMore (below : ℕ) (old new : List Role) : Type 0 where
  pub count : length new ≡ length old
  pub used : (j : ℕ) → IsUsed (role_at old j) → IsUsed (role_at new j)
  pub resolved : (j : ℕ) → role_at new j ≡ Resolved → role_at old j ≡ Resolved
  pub above : (j : ℕ) → below ≤ j → role_at new j ≡ role_at old j

-- the literal at a place needs no reason: a chosen one, one of the cube's, or one that doesn't follow from the clause that is
-- named as its reason
abbrev pub MayStay : List (List Literal) → List (List Literal) → List Entry → ℕ → Literal → Reason → Type 0
MayStay inputs lemmas trail k l Given = Unit {0}
MayStay inputs lemmas trail k l Decision = Unit {0}
MayStay inputs lemmas trail k l (ByClause source place) = IsByClause inputs lemmas (Stands trail k) l source place → ⊥
MayStay inputs lemmas trail k l (ByPair tighter) = ⊥
MayStay inputs lemmas trail k l (ByCycle cycle) = ⊥

abbrev pub MayStayAt : List (List Literal) → List (List Literal) → List Entry → ℕ → Type 0
MayStayAt inputs lemmas trail k = MayStay inputs lemmas trail k (on_trail trail k) (entry_at trail k).reason

-- the literal is the negation of one that stands on the trail; of one that needs no reason, where only such are kept
abbrev pub IsDenial : List (List Literal) → List (List Literal) → List Entry → Bool → Literal → Type 0
IsDenial inputs lemmas trail whole m =
    (j : ℕ) × (j < length trail) × (m ≡ negation_of (on_trail trail j))
    × (whole ≡ true → MayStayAt inputs lemmas trail j)

-- the trail's literals lie over so many points and within the limits
abbrev pub AreOver : ℕ → List Entry → Type 0
AreOver points trail = (k : ℕ) → k < length trail → IsOver points (on_trail trail k)

-- the negations of the kept literals of the first places are in the clause
abbrev pub KeepsAll : List Entry → List Role → ℕ → List Literal → Type 0
KeepsAll trail roles count clause =
    (j : ℕ) → j < count → role_at roles j ≡ Kept → Contains clause (negation_of (on_trail trail j))

-- the literal is the negation of a kept one
abbrev pub DeniesKept : List Entry → List Role → Literal → Type 0
DeniesKept trail roles m =
    (j : ℕ) × (j < length trail) × (role_at roles j ≡ Kept) × (m ≡ negation_of (on_trail trail j))

-- a turn of the way back over the trail: at the place the literal may be resolved, and what it follows from
-- is used
pub record IsTurned (inputs lemmas : List (List Literal)) (trail : List Entry) (whole : Bool) (k : ℕ)
    (old new : List Role) : Type 0 where
  pub count : length new ≡ length old
  pub closed : IsClosed inputs lemmas trail new
  pub used : (j : ℕ) → IsUsed (role_at old j) → IsUsed (role_at new j)
  pub above : (j : ℕ) → k < j → role_at new j ≡ role_at old j
  pub first : whole ≡ true → role_at new k ≡ Kept → MayStayAt inputs lemmas trail k

-- the way back over the trail, down to a place
pub record IsMarked (inputs lemmas : List (List Literal)) (trail : List Entry) (whole : Bool) (k : ℕ)
    (old new : List Role) : Type 0 where
  pub count : length trail ≤ length new
  pub closed : IsClosed inputs lemmas trail new
  pub used : (j : ℕ) → IsUsed (role_at old j) → IsUsed (role_at new j)
  pub first : whole ≡ true → (j : ℕ) → k ≤ j → j < length trail → role_at new j ≡ Kept
      → MayStayAt inputs lemmas trail j
