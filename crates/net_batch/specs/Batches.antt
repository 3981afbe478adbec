-- What it is for many literals to go into a net.
use Rattle.std.specs.List.{items_where_true}
use Rattle.std.specs.Prelude.{◌≡◌, ℕ, ◌<◌, ◌+◌, min, IsPermutation, List, ◌++◌, length, take, All, Contains, Option, Some, None, Bool, true, false, slice_index_or}
use Rattle.stn_core.specs.declared.literal.Literal.{Literal}
use Rattle.stn_core.specs.Literal.{literal_at}
use Rattle.stn_core.specs.Limits.{adds_limit}
use Rattle.stn_core.specs.Answer.{IsCycleAmong}

-- the net's literals are those that it had, and behind them some of the batch's
pub record IsLonger (old batch new : List Literal) : Type 0 where
  pub front : take (length old) new ≡ old
  pub among : All (Contains (old ++ batch)) new

-- all of the batch are in the net; or it is as it was, and some of it and of the batch are a negative cycle
abbrev pub IsBatchAdded : List Literal → List Literal → List Literal → Option (List Literal) → Type 0
IsBatchAdded old batch new None = IsLonger old batch new × All (Contains new) batch
IsBatchAdded old batch new (Some cycle) = (new ≡ old) × IsCycleAmong (old ++ batch) cycle

-- behind the literals that the net had stands each of the batch once, in some order, and the count of adds, up to where
-- it stands still, has risen by their number
pub record IsRisen (old batch : List Literal) (before : ℕ) (new : List Literal) (after : ℕ) : Type 0 where
  pub order : List Literal
  pub once : IsPermutation batch order
  pub behind : new ≡ old ++ order
  pub risen : min after adds_limit ≡ min (before + length batch) adds_limit

-- so it is where all of the batch are in the net
abbrev pub HasRisen : List Literal → List Literal → ℕ → List Literal → ℕ → Option (List Literal) → Type 0
HasRisen old batch before new after None = IsRisen old batch before new after
HasRisen old batch before new after (Some cycle) = Unit {0}

-- all of the batch are in the net; or some of it and of the batch are a negative cycle
abbrev pub IsBatchTried : List Literal → List Literal → List Literal → Option (List Literal) → Type 0
IsBatchTried old batch new None = All (Contains new) batch
IsBatchTried old batch new (Some cycle) = IsCycleAmong (old ++ batch) cycle

abbrev pub is_marked : List Bool → ℕ → Bool
is_marked marks k = slice_index_or marks k false

-- some of the batch are in the net, among them those that are marked
pub record IsPart (old batch : List Literal) (marks : List Bool) (new : List Literal) : Type 0 where
  pub longer : IsLonger old batch new
  pub count : length marks ≡ length batch
  pub marked : (j : ℕ) → j < length batch → is_marked marks j ≡ true → Contains new (literal_at batch j)

-- the literal at the place, if there is one, is marked; or some are a negative cycle
abbrev pub IsPlaceTried : List Literal → List Literal → List Bool → ℕ → Option (List Literal) → Type 0
IsPlaceTried old batch marks place None = place < length batch → is_marked marks place ≡ true
IsPlaceTried old batch marks place (Some cycle) = IsCycleAmong (old ++ batch) cycle

-- of the code: the marked ones have risen, where some of the batch are in the net
abbrev pub IsMarkedRisen : List Literal → List Literal → ℕ → List Bool → List Literal → ℕ → Type 0
IsMarkedRisen old batch before marks new after = IsRisen old (items_where_true marks batch) before new after

abbrev pub IsTriedRisen : List Literal → List Literal → ℕ → List Bool → List Literal → ℕ → Option (List Literal) → Type 0
IsTriedRisen old batch before marks new after None = IsMarkedRisen old batch before marks new after
IsTriedRisen old batch before marks new after (Some cycle) = Unit {0}
