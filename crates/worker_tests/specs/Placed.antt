-- The hands of a pool, each by its number.
use Rattle.std.specs.Prelude.{◌≡◌, ℕ, List}
use Rattle.cube_pool.specs.Hands.{Deque, Doings}

-- the hand with this number of the pool
abbrev pub IsHandOf : List Deque → ℕ → Doings → Type 0
IsHandOf pool number hand = (hand.pool ≡ pool) × (hand.number ≡ number)

-- a hand of the same pool, with the same number
abbrev pub IsSameHand : Doings → Doings → Type 0
IsSameHand old new = (new.pool ≡ old.pool) × (new.number ≡ old.number)
