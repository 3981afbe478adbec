-- A linear congruential generator (Knuth, The Art of Computer Programming 2, section 3.2.1), with the multiplier and
-- the increment of the C standard's example.
use Rattle.std.specs.Prelude.{◌≡◌, ℕ, zero, suc, ◌+◌, ◌*◌, ◌/◌, ◌%◌, ◌<◌, List, length, slice_index}

abbrev pub state_behind : ℕ → ℕ
state_behind state = (state * 1103515245 + 12345) % 2147483648

-- the state after so many draws
abbrev pub state_after : ℕ → ℕ → ℕ
state_after start zero = start % 2147483648
state_after start (suc count) = state_behind (state_after start count)

-- the draw of this number, from 0
abbrev pub draw : ℕ → ℕ → ℕ
draw start i = state_after start (suc i) / 65536

-- the list has the first so many
pub record AreDraws (start count : ℕ) (draws : List ℕ) : Type 0 where
  pub many : length draws ≡ count
  pub each : (i : ℕ) → i < count → slice_index draws i ≡ draw start i
