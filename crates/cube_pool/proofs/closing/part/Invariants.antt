use Rattle.std.proofs.Common.{All, ◌≡◌, ℕ, ◌+◌, ◌-◌, ◌<◌, length, vec_len}
use Rattle.std.specs.Prelude.{sum_by}
use Rattle.std.proofs.Math.ListN.{get_or}
use mathlib.Core.List.{IsPrefix}
use Rattle.cube_pool.specs.Lanes.{History, weigh}
use Rattle.cube_pool.specs.Hands.{Doings, fetched_there, known_there, pushed_by, fetched_by}
use Rattle.cube_pool.specs.code.Closings.{Lane, Row, AreRows, AreEndsSoFar, AreHandsLeft, IsOwnEnd, known_at, put_by, taken_at, taken_there, taken_over}
use Rattle.cube_pool.proofs.Lists.{IsFrontOf}
use Rattle.cube_pool.proofs.closing.part.Given as goal

abbrev pub invariant-hands : goal.invariant-hands
invariant-hands l = record {
  hands : AreHandsLeft l.pool l.hands.items;
  ends : AreEndsSoFar l.pool l.lanes.items;
  count : vec_len l.hands + vec_len l.lanes ≡ length l.pool;
  same : vec_len l.rows ≡ vec_len l.lanes;
  rows : AreRows l.pool l.rows.items;
  put : (h : ℕ → ℕ) → put_by h l.lanes.items + pushed_by h l.hands.items ≡ pushed_by h l.fn.hands.items;
  taken : (h : ℕ → ℕ) → (taken_there h l.lanes.items + taken_over h l.rows.items) + fetched_by h l.hands.items ≡ fetched_by h l.fn.hands.items;
  front : IsFrontOf l.hands.items l.fn.hands.items;
  own : (k : ℕ) (d : Lane) → k < length l.lanes.items → (one : Doings) → IsOwnEnd (get_or l.fn.hands.items (length l.pool - 1 - k) one) (get_or l.lanes.items k d);
  fetched : (k : ℕ) (h : ℕ → ℕ) → sum_by (λ (r : Row). weigh h (taken_at k r)) l.rows.items + sum_by (λ (d : Doings). weigh h (fetched_there k d)) l.hands.items ≡ sum_by (λ (d : Doings). weigh h (fetched_there k d)) l.fn.hands.items;
  known : (k : ℕ) (log : History) → All (λ (r : Row). IsPrefix (known_at k r) log) l.rows.items → All (λ (d : Doings). IsPrefix (known_there k d) log) l.hands.items → All (λ (d : Doings). IsPrefix (known_there k d) log) l.fn.hands.items;
}

abbrev pub decreases-hands : goal.decreases-hands
decreases-hands l = vec_len l.hands
