-- Of the code and not of the meaning: trail and levels of a search in the middle of a slice, and what its end says.
use Rattle.std.specs.Prelude.{◌≡◌, ℕ, ◌<◌, ◌≤◌, ◌+◌, List, [], ◌∷◌, ◌++◌, length, map, take, All}
use Rattle.std.specs.Prelude.{Bool, Option, Some, None, slice_index_or, ◌≤ℤ◌}
use Rattle.stn_core.specs.declared.literal.Literal.{Literal}
use Rattle.refute_tree.specs.declared.lemma.Lemma.{Lemma}
use Rattle.refute_tree.specs.Trees.{stated}
use Rattle.conflict_analysis.specs.declared.entry.Reason.{Reason}
use Rattle.conflict_analysis.specs.declared.entry.Reason.TheVariants.{Given, Decision, Clause as ByClause}
use Rattle.conflict_analysis.specs.declared.entry.Reason.TheVariants.{Pair as ByPair, Cycle as ByCycle}
use Rattle.conflict_analysis.specs.declared.entry.Entry.{Entry}
use Rattle.conflict_analysis.specs.declared.entry.Level.{Level}
use Rattle.conflict_analysis.specs.declared.entry.Conflict.{Conflict}
use Rattle.branch_search.specs.declared.state.State.{State}
use Rattle.branch_search.specs.declared.conflict.Reaction.{Reaction}
use Rattle.branch_search.specs.declared.conflict.Reaction.TheVariants.{Jumped, Excluded, Unsettled}
use Rattle.branch_search.specs.declared.propagate.Tried.{Tried}
use Rattle.branch_search.specs.declared.propagate.Tried.TheVariants.{Pushed, Nothing, Stuck}
use Rattle.conflict_analysis.specs.code.Trails.{IsTrail, AreOver, entry_at, on_trail, Stands, IsByClause, IsConflict, IsDenial}
use Rattle.conflict_analysis.specs.Proved.{IsClauseOver, IsProved}
use Rattle.branch_search.specs.Slices.{Question, AreProved, Excludes}

-- the clauses of the handed lemmas, and of the slice's own
abbrev pub all_lemmas : List (List Literal) → List Lemma → List (List Literal)
all_lemmas handed own = handed ++ map stated own

abbrev pub level_at : List Level → ℕ → Level
level_at levels i = slice_index_or levels i (record { start = 0; in_net = 0 })

-- how many literals stood on the trail before a decision, and how many the net had
abbrev pub start_of : List Level → ℕ → ℕ
start_of levels i = (level_at levels i).start

abbrev pub in_net_of : List Level → ℕ → ℕ
in_net_of levels i = (level_at levels i).in_net

-- the literals stand on the trail below a place
abbrev pub AllStand : List Entry → ℕ → List Literal → Type 0
AllStand entries below literals = All (Stands entries below) literals

-- the level began with so many of the trail's literals, among which those were that the net had
pub record IsLevel (entries : List Entry) (literals : List Literal) (level : Level) : Type 0 where
  pub on_trail : level.start ≤ length entries
  pub in_net : level.in_net ≤ length literals
  pub stand : AllStand entries level.start (take level.in_net literals)

-- the trail is a good one, the net's literals stand on it, and the levels begin one after the other
pub record IsSearch (q : Question) (own : List Lemma) (entries : List Entry) (levels : List Level)
    (literals : List Literal) : Type 0 where
  pub trail : IsTrail q.problem.clauses (all_lemmas q.handed own) q.cube entries
  pub over : AreOver q.problem.points entries
  pub lemmas : All (IsClauseOver q.problem.points) (all_lemmas q.handed own)
  pub net : AllStand entries (length entries) literals
  pub each : (i : ℕ) → i < length levels → IsLevel entries literals (level_at levels i)
  pub starts : (i j : ℕ) → i ≤ j → j < length levels → start_of levels i ≤ start_of levels j
  pub in_nets : (i j : ℕ) → i ≤ j → j < length levels → in_net_of levels i ≤ in_net_of levels j
  pub rooted : (j : ℕ) → (entry_at entries j).reason ≡ Decision → (0 < length levels)
      × (start_of levels 0 ≤ j)
  pub proved : AreProved q own

abbrev pub IsState : Question → State → List Literal → Type 0
IsState q s literals = IsSearch q s.own.items s.entries.items s.levels.items literals

-- the trail's literals are in conflict
pub record IsStuckSearch (q : Question) (own : List Lemma) (entries : List Entry) (levels : List Level)
    (literals : List Literal) (conflict : Conflict) : Type 0 where
  pub state : IsSearch q own entries levels literals
  pub clash : IsConflict q.problem.clauses (all_lemmas q.handed own) (Stands entries (length entries)) conflict

abbrev pub IsStuck : Question → State → List Literal → Conflict → Type 0
IsStuck q s literals conflict = IsStuckSearch q s.own.items s.entries.items s.levels.items literals conflict

abbrev pub IsSearchAfter : Question → List Lemma → List Entry → List Level → List Literal → Option Conflict
    → Type 0
IsSearchAfter q own entries levels literals None = IsSearch q own entries levels literals
IsSearchAfter q own entries levels literals (Some conflict) =
    IsStuckSearch q own entries levels literals conflict

abbrev pub IsAfter : Question → State → List Literal → Option Conflict → Type 0
IsAfter q s literals found = IsSearchAfter q s.own.items s.entries.items s.levels.items literals found

-- what became of a proposal
abbrev pub IsSearchTried : Question → List Lemma → List Entry → List Level → List Literal → Tried → Type 0
IsSearchTried q own entries levels literals Pushed = IsSearch q own entries levels literals
IsSearchTried q own entries levels literals Nothing = IsSearch q own entries levels literals
IsSearchTried q own entries levels literals (Stuck conflict) =
    IsStuckSearch q own entries levels literals conflict

abbrev pub IsTried : Question → State → List Literal → Tried → Type 0
IsTried q s literals taken = IsSearchTried q s.own.items s.entries.items s.levels.items literals taken

-- both bound the same two points, the first at least as tightly
pub record IsWeaker (tighter weaker : Literal) : Type 0 where
  pub x : tighter.x ≡ weaker.x
  pub y : tighter.y ≡ weaker.y
  pub c : tighter.c ≤ℤ weaker.c

-- what the net has after an add
abbrev pub IsNetAfter : List Literal → Literal → List Literal → Option Conflict → Type 0
IsNetAfter old l new None = new ≡ old ++ l ∷ []
IsNetAfter old l new (Some conflict) = new ≡ old

-- the lemma with this number excludes the cube, and all are proved
abbrev pub AreExcluding : Question → List Lemma → ℕ → Type 0
AreExcluding q own j = (j < length own) × Excludes q.cube own j × AreProved q own

abbrev pub IsExcluded : Question → State → ℕ → Type 0
IsExcluded q s j = AreExcluding q s.own.items j

abbrev pub IsNoClause : Reason → Type 0
IsNoClause Given = Unit {0}
IsNoClause Decision = Unit {0}
IsNoClause (ByClause source place) = ⊥
IsNoClause (ByPair tighter) = Unit {0}
IsNoClause (ByCycle cycle) = Unit {0}

-- no literal of the trail stands there by a clause, which might fail its test
abbrev pub HasNoClause : List Entry → Type 0
HasNoClause entries = (j : ℕ) → IsNoClause (entry_at entries j).reason

-- where the literal stands there by a clause, it follows from it
abbrev pub IsClauseReason : List (List Literal) → List (List Literal) → List Entry → ℕ → Literal → Reason → Type 0
IsClauseReason inputs lemmas entries k l Given = Unit {0}
IsClauseReason inputs lemmas entries k l Decision = Unit {0}
IsClauseReason inputs lemmas entries k l (ByClause source place) = IsByClause inputs lemmas (Stands entries k) l source place
IsClauseReason inputs lemmas entries k l (ByPair tighter) = Unit {0}
IsClauseReason inputs lemmas entries k l (ByCycle cycle) = Unit {0}

-- each literal that stands on the trail by a clause follows from it
abbrev pub HasReasons : List (List Literal) → List (List Literal) → List Entry → Type 0
HasReasons inputs lemmas entries =
    (j : ℕ) → IsClauseReason inputs lemmas entries j (on_trail entries j) (entry_at entries j).reason

-- a lemma that follows from the search's clauses, of literals that the trail denies: with `whole` what it denies by decisions and
-- the cube's literals, and by those that don't follow from the clause by which they stand there
pub record IsSearchTaught (q : Question) (own : List Lemma) (entries : List Entry) (whole : Bool) (lemma : Lemma) : Type 0 where
  pub proved : IsProved q.problem.points q.problem.clauses (all_lemmas q.handed own) lemma
  pub denials : All (IsDenial q.problem.clauses (all_lemmas q.handed own) entries whole) lemma.clause

abbrev pub IsTaught : Question → State → Bool → Lemma → Type 0
IsTaught q s whole lemma = IsSearchTaught q s.own.items s.entries.items whole lemma

-- from a conflict a lemma was learned over these, which has this number; where nothing was decided, and each literal that stands
-- on the trail by a clause follows from it, the lemma excludes the cube
pub record IsSearchLearned (q : Question) (lemmas : List (List Literal)) (own : List Lemma) (entries : List Entry)
    (levels : List Level) (j : ℕ) (literals : List Literal) : Type 0 where
  pub state : IsSearch q own entries levels literals
  pub count : length own ≡ j + 1
  pub excludes : length levels ≡ 0 → HasReasons q.problem.clauses lemmas entries → Excludes q.cube own j

abbrev pub IsLearned : Question → State → State → List Literal → Type 0
IsLearned q before s literals =
    IsSearchLearned q (all_lemmas q.handed before.own.items) s.own.items s.entries.items s.levels.items
    (length before.own.items) literals

-- nothing was decided, and what was learned doesn't exclude the cube, only where some literal stands on the trail by a clause
-- that it doesn't follow from
abbrev pub FailsReason : Question → State → Reaction → Type 0
FailsReason q before Jumped = Unit {0}
FailsReason q before (Excluded j) = Unit {0}
FailsReason q before Unsettled =
    HasReasons q.problem.clauses (all_lemmas q.handed before.own.items) before.entries.items → ⊥

-- a conflict was met, where there were so many levels: the search goes on with fewer, a lemma excludes the cube, or it can't go on
abbrev pub IsSearchSettled : Question → ℕ → List Lemma → List Entry → List Level → List Literal → Reaction
    → Type 0
IsSearchSettled q count own entries levels literals Jumped =
    (length levels < count) × IsSearch q own entries levels literals
IsSearchSettled q count own entries levels literals (Excluded j) = AreExcluding q own j
IsSearchSettled q count own entries levels literals Unsettled = AreProved q own

abbrev pub IsSettled : Question → ℕ → State → List Literal → Reaction → Type 0
IsSettled q count s literals found =
    IsSearchSettled q count s.own.items s.entries.items s.levels.items literals found

-- the net has the cube's literals alone, or a lemma excludes the cube
abbrev pub IsSearchEntered : Question → List Lemma → List Entry → List Level → List Literal → Option ℕ
    → Type 0
IsSearchEntered q own entries levels literals None =
    IsSearch q own entries levels literals × (levels ≡ []) × (literals ≡ q.cube)
IsSearchEntered q own entries levels literals (Some j) = AreExcluding q own j

abbrev pub IsEntered : Question → State → List Literal → Option ℕ → Type 0
IsEntered q s literals found = IsSearchEntered q s.own.items s.entries.items s.levels.items literals found
