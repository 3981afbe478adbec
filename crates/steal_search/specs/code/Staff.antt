-- Of the code and not of the meaning: workers on threads of their own.
use Rattle.std.specs.Prelude.{◌≡◌, ℕ, ◌+◌, ◌<◌, List, length, None, IfSome, slice_index_or}
use Rattle.stn_core.specs.declared.problem.Problem.{Problem}
use Rattle.book_lock.specs.Seats.{Place, Sight, IsSameSeat}
use Rattle.cube_pool.specs.Hands.{Deque}
use Rattle.steal_search.specs.declared.shared.Worker.{Worker}
use Rattle.steal_search.specs.declared.dealing.Pace.{Pace}

-- the worker's seat, hand and tools are of this desk, problem and pool, and it holds no cube
pub record MayWork (desk : Place) (problem : Problem) (pool : List Deque) (worker : Worker) : Type 0 where
  pub desk_is : worker.seat.desk ≡ desk.id
  pub problem_is : worker.seat.view.begun.problem ≡ problem
  pub none : worker.seat.cube ≡ None
  pub pool_is : worker.hand.pool ≡ pool
  pub pace : IfSome worker.pace (λ (pace : Pace). pace.tools ≡ problem.points)

-- the worker's seat is the same, and holds no cube; its hand is the same
abbrev pub IsSameWorker : Worker → Worker → Type 0
IsSameWorker old new =
    IsSameSeat old.seat new.seat × (new.seat.cube ≡ None)
    × (new.hand.pool ≡ old.hand.pool) × (new.hand.number ≡ old.hand.number)

-- the seats of the workers are those of the desk, numbered from 1
abbrev pub AreSeated : Place → List Worker → Type 0
AreSeated desk staff =
    (k : ℕ) (d : Worker) → k < length staff
    → ((slice_index_or staff k d).seat.desk ≡ desk.id)
    × ((slice_index_or staff k d).seat.view.number ≡ k + 1)
    × ((slice_index_or staff k d).seat.cube ≡ None)

abbrev pub AllMayWork : Place → Problem → List Deque → List Worker → Type 0
AllMayWork desk problem pool staff =
    (k : ℕ) (d : Worker) → k < length staff → MayWork desk problem pool (slice_index_or staff k d)

-- the hands of the workers are those of the pool, the first worker's with the greatest number
abbrev pub AreHanded : List Deque → List Worker → Type 0
AreHanded pool staff =
    (k : ℕ) (d : Worker) → k < length staff
    → ((slice_index_or staff k d).hand.pool ≡ pool)
    × ((slice_index_or staff k d).hand.number + (k + 1) ≡ length pool)

-- seat 0 of the desk, which no other seat was joined to
pub record IsFirst (desk : Place) (problem : Problem) (seats : ℕ) (seat : Sight) : Type 0 where
  pub desk_is : seat.desk ≡ desk.id
  pub problem_is : seat.view.begun.problem ≡ problem
  pub number : seat.view.number ≡ 0
  pub count : seat.view.seats ≡ seats
  pub none : seat.cube ≡ None
