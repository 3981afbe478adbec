-- Of the code and not of the meaning: the deques while the pool is opened and closed.
use Rattle.std.specs.Prelude.{◌≡◌, ℕ, ◌+◌, ◌-◌, ◌<◌, ◌≤◌, All, List, [], length, map, sum_by, Option, Some, slice_get, slice_index_or}
use Rattle.std.specs.Global.{Global, Vec}
use mathlib.Core.List.{IsPrefix}
use Rattle.crossbeam_deque.specs.declared.handles.Worker.{Worker}
use Rattle.crossbeam_deque.specs.declared.handles.Stealer.{Stealer}
use Rattle.crossbeam_deque.specs.Handles.{Pass, view, worker_capacity, worker_deque, worker_flavor, worker_index, worker_port, worker_view, stealer_flavor}
use Rattle.cube_pool.specs.declared.slip.Slip.{Slip}
use Rattle.cube_pool.specs.declared.lane.Fair.{Fair}
use Rattle.cube_pool.specs.Lanes.{History, Begins, HasOneHistory, fresh, joint, slip, whole, weigh}
use Rattle.cube_pool.specs.Hands.{Deque, Doings, AreTakers, deque_of, fetched_there, known_by, known_there, taken_by, pushed_by, fetched_by}

abbrev pub Lane : Type 0
Lane = Worker ℕ Global Slip Fair

abbrev pub Row : Type 0
Row = Vec (Pass ℕ Slip Global)

-- each gives its first number first
abbrev pub AllFirstOut : List (Stealer ℕ Global Slip Fair) → Type 0
AllFirstOut mouths =
    (k : ℕ) (d : Stealer ℕ Global Slip Fair) → k < length mouths → stealer_flavor (slice_index_or mouths k d) ≡ 0

pub record IsPool (mouths : List (Stealer ℕ Global Slip Fair)) : Type 0 where
  pub first_out : AllFirstOut mouths
  pub few : length mouths < whole

-- a deque to which nothing was pushed, and its part of the right to know the whole
abbrev pub IsOpenWith : ℕ → Lane → Type 0
IsOpenWith parts lane =
    (worker_flavor lane ≡ 0) × (65536 ≤ worker_capacity lane) × (worker_index lane ≡ 0)
    × (worker_view lane ≡ slip parts [] [] [] []) × (worker_port lane ≡ 0)

abbrev pub AreOpenWith : ℕ → List Lane → Type 0
AreOpenWith parts lanes = (k : ℕ) (d : Lane) → k < length lanes → IsOpenWith parts (slice_index_or lanes k d)

abbrev pub deques : List Lane → List Deque
deques lanes = map (λ (lane : Lane). worker_deque lane) lanes

-- a pass of each deque, by which nothing was taken and nothing is known
pub record IsFreshRow (pool : List Deque) (row : List (Pass ℕ Slip Global)) : Type 0 where
  pub deques : map deque_of row ≡ pool
  pub takers : AreTakers row
  pub nothing : map taken_by row ≡ map (λ (d : Deque). []) pool
  pub unknown : map known_by row ≡ map (λ (d : Deque). []) pool

abbrev pub AreFreshRows : List Deque → List Row → Type 0
AreFreshRows pool rows = (k : ℕ) (d : Row) → k < length rows → IsFreshRow pool (slice_index_or rows k d).items

-- the last deque's end comes first: the k-th from behind is that of the deque with number k
abbrev pub IsEnd : Option Deque → ℕ → Lane → Type 0
IsEnd deque parts lane =
    (deque ≡ Some (worker_deque lane)) × (worker_flavor lane ≡ 0) × ((worker_view lane).parts ≡ parts)
    × (worker_port lane ≡ 0)

abbrev pub AreEnds : List Deque → ℕ → List Lane → Type 0
AreEnds pool parts lanes =
    (length lanes ≡ length pool)
    × ((k : ℕ) (d : Lane) → k < length lanes
    → IsEnd (slice_get pool (length pool - 1 - k)) parts (slice_index_or lanes k d))

-- ends that may be told what is left
abbrev pub IsWhole : Lane → Type 0
IsWhole lane = (worker_flavor lane ≡ 0) × ((worker_view lane).parts ≡ whole) × (worker_port lane ≡ 0)

abbrev pub AreWhole : List Lane → Type 0
AreWhole lanes = (k : ℕ) (d : Lane) → k < length lanes → IsWhole (slice_index_or lanes k d)

-- the ends know one history each
abbrev pub HaveOneHistory : List Lane → Type 0
HaveOneHistory lanes = All (λ (lane : Lane). HasOneHistory (worker_view lane)) lanes

-- a pass of each deque
abbrev pub IsRow : List Deque → List (Pass ℕ Slip Global) → Type 0
IsRow pool row = (map deque_of row ≡ pool) × AreTakers row

abbrev pub AreRows : List Deque → List Row → Type 0
AreRows pool rows = (k : ℕ) (d : Row) → k < length rows → IsRow pool (slice_index_or rows k d).items

-- what was put by the deques' own ends and taken by them, and what was taken by passes
abbrev pub put_by : (ℕ → ℕ) → List Lane → ℕ
put_by h lanes = sum_by (λ (lane : Lane). weigh h (worker_view lane).put) lanes

abbrev pub taken_there : (ℕ → ℕ) → List Lane → ℕ
taken_there h lanes = sum_by (λ (lane : Lane). weigh h (worker_view lane).taken) lanes

abbrev pub taken_in : (ℕ → ℕ) → List (Pass ℕ Slip Global) → ℕ
taken_in h row = sum_by (λ (p : Pass ℕ Slip Global). weigh h (taken_by p)) row

abbrev pub taken_over : (ℕ → ℕ) → List Row → ℕ
taken_over h rows = sum_by (λ (row : Row). taken_in h row.items) rows

-- what was taken of the deque with number k by the passes of a row, and what is known of it by that
abbrev pub taken_at : ℕ → Row → List ℕ
taken_at k row = slice_index_or (map taken_by row.items) k []

abbrev pub known_at : ℕ → Row → History
known_at k row = slice_index_or (map known_by row.items) k []

-- the end of a hand's own deque
abbrev pub IsOwnEnd : Doings → Lane → Type 0
IsOwnEnd hand lane =
    ((worker_view lane).put ≡ hand.pushed) × ((worker_view lane).taken ≡ [])
    × ((worker_view lane).known ≡ hand.known_by_pushes)

-- the hands' parts: their deques' ends, and their rows of passes
pub record AreParted (pool : List Deque) (hands : List Doings) (lanes : List Lane) (rows : List Row) : Type 0 where
  pub ends : AreEnds pool (whole - length pool) lanes
  pub all : AreRows pool rows
  pub count : length rows ≡ length pool
  pub put : (h : ℕ → ℕ) → put_by h lanes ≡ pushed_by h hands
  pub taken : (h : ℕ → ℕ) → taken_there h lanes + taken_over h rows ≡ fetched_by h hands
  pub own : (k : ℕ) (lane : Lane) → k < length lanes → (hand : Doings)
      → IsOwnEnd (slice_index_or hands (length pool - 1 - k) hand) (slice_index_or lanes k lane)
  pub fetched : (k : ℕ) (h : ℕ → ℕ)
      → sum_by (λ (row : Row). weigh h (taken_at k row)) rows
      ≡ sum_by (λ (hand : Doings). weigh h (fetched_there k hand)) hands
  pub known : (k : ℕ) (log : History)
      → All (λ (row : Row). IsPrefix (known_at k row) log) rows
      → All (λ (hand : Doings). IsPrefix (known_there k hand) log) hands

-- what the pass of the deque with number k has seen
abbrev pub seen_at : ℕ → List (Pass ℕ Slip Global) → Slip
seen_at k row = slice_index_or (map (λ (p : Pass ℕ Slip Global). view p) row) k fresh

-- each end has taken in the pass of its deque
abbrev pub AreJoint : List Lane → List (Pass ℕ Slip Global) → List Lane → Type 0
AreJoint old row lanes =
    (k : ℕ) (d : Lane) → k < length lanes
    → worker_view (slice_index_or lanes k d)
    ≡ joint (worker_view (slice_index_or old k d)) (seen_at (length row - 1 - k) row)

-- the end of the deque with number k has taken in its pass of each row
pub record HasTakenIn (k : ℕ) (rows : List Row) (old new : Slip) : Type 0 where
  pub put : new.put ≡ old.put
  pub taken : (h : ℕ → ℕ)
      → weigh h new.taken ≡ weigh h old.taken + sum_by (λ (row : Row). weigh h (taken_at k row)) rows
  pub fronts : (log : History) → Begins log new
      → Begins log old × All (λ (row : Row). IsPrefix (known_at k row) log) rows

-- the ends know all that was put and taken
pub record AreJoined (pool : List Deque) (old : List Lane) (rows : List Row) (lanes : List Lane) : Type 0 where
  pub ends : AreEnds pool whole lanes
  pub put : (h : ℕ → ℕ) → put_by h lanes ≡ put_by h old
  pub taken : (h : ℕ → ℕ) → taken_there h lanes ≡ taken_there h old + taken_over h rows
  pub each : (k : ℕ) (d : Lane) → k < length lanes
      → HasTakenIn (length pool - 1 - k) rows (worker_view (slice_index_or old k d))
      (worker_view (slice_index_or lanes k d))

-- the deques while a row of passes is cut off: the first ones have one part less
abbrev pub AreSplit : ℕ → ℕ → List Lane → Type 0
AreSplit parts place lanes =
    (k : ℕ) (d : Lane) → k < length lanes
    → (k < place → IsOpenWith (parts - 1) (slice_index_or lanes k d))
    × (place ≤ k → IsOpenWith parts (slice_index_or lanes k d))

-- the ends that have no hand yet, the last one's first
abbrev pub AreLanesLeft : List Deque → List Lane → Type 0
AreLanesLeft pool lanes =
    (k : ℕ) (d : Lane) → k < length lanes
    → IsOpenWith (whole - length pool) (slice_index_or lanes k d)
    × (slice_get pool (length pool - 1 - k) ≡ Some (worker_deque (slice_index_or lanes k d)))

-- the first hands of a pool
abbrev pub AreHandsLeft : List Deque → List Doings → Type 0
AreHandsLeft pool hands =
    (k : ℕ) (d : Doings) → k < length hands
    → ((slice_index_or hands k d).pool ≡ pool) × ((slice_index_or hands k d).number ≡ k)

abbrev pub AreEndsSoFar : List Deque → List Lane → Type 0
AreEndsSoFar pool lanes =
    (k : ℕ) (d : Lane) → k < length lanes
    → IsEnd (slice_get pool (length pool - 1 - k)) (whole - length pool) (slice_index_or lanes k d)

-- the ends while a row of passes is taken in: those of the deques from this number on have one part more
abbrev pub AreJoining : List Deque → ℕ → ℕ → List Lane → Type 0
AreJoining pool parts place lanes =
    (length lanes ≡ length pool)
    × ((k : ℕ) (d : Lane) → k < length lanes
    → (place ≤ length pool - 1 - k
    → IsEnd (slice_get pool (length pool - 1 - k)) (parts + 1) (slice_index_or lanes k d))
    × (length pool - 1 - k < place
    → IsEnd (slice_get pool (length pool - 1 - k)) parts (slice_index_or lanes k d)))

-- the same while a row is taken in, and while the rows are
abbrev pub AreBecomingJoint : ℕ → List Lane → List (Pass ℕ Slip Global) → List Lane → Type 0
AreBecomingJoint place old row lanes =
    (k : ℕ) (d : Lane) → k < length lanes
    → (place ≤ length row - 1 - k
    → worker_view (slice_index_or lanes k d)
    ≡ joint (worker_view (slice_index_or old k d)) (seen_at (length row - 1 - k) row))
    × (length row - 1 - k < place
    → worker_view (slice_index_or lanes k d) ≡ worker_view (slice_index_or old k d))

pub record IsTakingIn (k : ℕ) (left rows : List Row) (old new : Slip) : Type 0 where
  pub put : new.put ≡ old.put
  pub taken : (h : ℕ → ℕ)
      → weigh h new.taken + sum_by (λ (row : Row). weigh h (taken_at k row)) left
      ≡ weigh h old.taken + sum_by (λ (row : Row). weigh h (taken_at k row)) rows
  pub fronts : (log : History) → Begins log new
      → Begins log old
      × (All (λ (row : Row). IsPrefix (known_at k row) log) left
      → All (λ (row : Row). IsPrefix (known_at k row) log) rows)
