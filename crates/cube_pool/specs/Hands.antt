-- What contracts see of a pool and of its hands, and what a call does to a hand.
use Rattle.std.specs.Prelude.{◌≡◌, ℕ, ◌+◌, ◌-◌, ◌<◌, ◌≤◌, ◌==◌, cond, All, List, [], ◌∷◌, ◌++◌, length, map, sum_by, Some, None, slice_get, slice_index_or, slice_set}
use Rattle.std.specs.Global.{Global}
use mathlib.Core.List.{IsPrefix}
use Rattle.crossbeam_deque.specs.declared.handles.Worker.{Worker}
use Rattle.crossbeam_deque.specs.Handles.{Pass, view, worker_capacity, worker_deque, worker_flavor, worker_index, worker_port, worker_view}
use Rattle.cube_pool.specs.declared.slip.Event.TheVariants.{Pushed, Taken}
use Rattle.cube_pool.specs.declared.slip.Slip.{Slip}
use Rattle.cube_pool.specs.Lanes.{History, IsLegal, pushed_in, oldest_in, first_taken, slip, whole, weigh}

-- which deque it is
abbrev pub Deque : Type 0
Deque = (ℕ × ℕ) × Global

-- a hand: the deques of its pool, its number, what it pushed, and for each deque what it fetched there; and what it
-- knows of the deques' histories: of its own one the front through its last push, and of each the front through its
-- last fetch there
pub record Doings : Type 0 where
  pub pool : List Deque
  pub number : ℕ
  pub pushed : List ℕ
  pub fetched : List (List ℕ)
  pub known_by_pushes : History
  pub known_by_fetches : List History

-- a hand that has done nothing
abbrev pub newcomer : List Deque → ℕ → Doings
newcomer pool number = record {
  pool = pool;
  number = number;
  pushed = [];
  fetched = map (λ (d : Deque). []) pool;
  known_by_pushes = [];
  known_by_fetches = map (λ (d : Deque). []) pool;
}

-- the hands of a pool, each by its number, none of which has done anything
abbrev pub AreNewcomers : ℕ → List Deque → List Doings → Type 0
AreNewcomers workers pool hands =
    (length pool ≡ workers) × (length hands ≡ workers)
    × ((k : ℕ) → k < workers → slice_get hands k ≡ Some (newcomer pool k))

-- what a hand fetched from the deque with number k, and what it knows of it by that
abbrev pub fetched_there : ℕ → Doings → List ℕ
fetched_there k hand = slice_index_or hand.fetched k []

abbrev pub known_there : ℕ → Doings → History
known_there k hand = slice_index_or hand.known_by_fetches k []

-- after a push, and after a fetch from the deque with number k, at this point of the deque's history
abbrev pub with_pushed : Doings → ℕ → History → Doings
with_pushed hand id log =
    record hand { pushed = hand.pushed ++ id ∷ []; known_by_pushes = log ++ Pushed id ∷ [] }

abbrev pub with_fetched : Doings → ℕ → ℕ → History → Doings
with_fetched hand k id log = record hand {
  fetched = slice_set hand.fetched k (fetched_there k hand ++ id ∷ []);
  known_by_fetches = slice_set hand.known_by_fetches k (log ++ Taken ∷ []);
}

-- a push: the history goes on from what the hand knew by its pushes, and all that was pushed before are its own
abbrev pub HasPushed : Doings → ℕ → Doings → Type 0
HasPushed old id new =
    (log : History) × IsPrefix old.known_by_pushes log × (pushed_in log ≡ old.pushed)
    × (new ≡ with_pushed old id log)

-- a fetch from the deque with number k: its history goes on from what the hand knew by its fetches there, and the
-- number is the oldest that the deque holds then
abbrev pub HasFetched : Doings → ℕ → ℕ → Doings → Type 0
HasFetched old k id new =
    (log : History) × IsPrefix (known_there k old) log × (oldest_in log ≡ Some id)
    × (new ≡ with_fetched old k id log)

-- 1 for a hand with this number
abbrev pub one_for : ℕ → Doings → ℕ
one_for n hand = cond (hand.number == n) 1 0

-- how many of the hands have this number
abbrev pub times : ℕ → List Doings → ℕ
times n hands = sum_by (one_for n) hands

-- all hands of the pool, in any order
abbrev pub AreHandsOf : List Deque → List Doings → Type 0
AreHandsOf pool hands =
    (length hands ≡ length pool)
    × All (λ (hand : Doings). hand.pool ≡ pool) hands
    × ((n : ℕ) → n < length pool → times n hands ≡ 1)

-- of the code: all hands of the pool, by their numbers
abbrev pub AreInOrder : List Deque → List Doings → Type 0
AreInOrder pool hands =
    (length hands ≡ length pool)
    × ((k : ℕ) (d : Doings) → k < length hands
    → ((slice_index_or hands k d).pool ≡ pool) × ((slice_index_or hands k d).number ≡ k))

-- the weights of all numbers that the hands pushed, and of all that they fetched
abbrev pub pushed_by : (ℕ → ℕ) → List Doings → ℕ
pushed_by h hands = sum_by (λ (hand : Doings). weigh h hand.pushed) hands

abbrev pub weigh_all : (ℕ → ℕ) → List (List ℕ) → ℕ
weigh_all h lists = sum_by (λ (xs : List ℕ). weigh h xs) lists

abbrev pub fetched_by : (ℕ → ℕ) → List Doings → ℕ
fetched_by h hands = sum_by (λ (hand : Doings). weigh_all h hand.fetched) hands

-- each number was fetched or is left as often as it was pushed: so it is however the numbers are weighed
abbrev pub AreSettled : List Doings → List ℕ → Type 0
AreSettled hands left = (h : ℕ → ℕ) → pushed_by h hands ≡ fetched_by h hands + weigh h left

-- the one history of the deque with number k: that deque's hand pushed what was pushed, in this order; each hand knows
-- fronts of it; and what the hands fetched there is what was pushed first, however the numbers are weighed
pub record IsHistoryOf (hands : List Doings) (k : ℕ) (log : History) : Type 0 where
  pub legal : IsLegal log
  pub own : All (λ (hand : Doings). hand.number ≡ k
      → (hand.pushed ≡ pushed_in log) × IsPrefix hand.known_by_pushes log) hands
  pub known : All (λ (hand : Doings). IsPrefix (known_there k hand) log) hands
  pub fetched : (h : ℕ → ℕ)
      → sum_by (λ (hand : Doings). weigh h (fetched_there k hand)) hands ≡ weigh h (first_taken log)

abbrev pub HaveHistories : List Deque → List Doings → Type 0
HaveHistories pool hands = (k : ℕ) → k < length pool → (log : History) × IsHistoryOf hands k log

-- of the code: a pass of a deque, by which numbers are taken and none put
abbrev pub deque_of : Pass ℕ Slip Global → Deque
deque_of p = (p.rows, p.heap)

abbrev pub taken_by : Pass ℕ Slip Global → List ℕ
taken_by p = (view p).taken

abbrev pub known_by : Pass ℕ Slip Global → History
known_by p = (view p).known

abbrev pub IsTaker : Pass ℕ Slip Global → Type 0
IsTaker p = (p.me.hand ≡ None) × (p.me.spare ≡ None) × (view p ≡ slip 1 [] (taken_by p) (known_by p) [])

abbrev pub AreTakers : List (Pass ℕ Slip Global) → Type 0
AreTakers passes =
    (k : ℕ) (d : Pass ℕ Slip Global) → k < length passes → IsTaker (slice_index_or passes k d)

-- of the code: how a hand's parts hang together
pub record IsHand {P : Type 0} (number pushes : ℕ) (lane : Worker ℕ Global Slip P)
    (passes : List (Pass ℕ Slip Global)) : Type 0 where
  pub own : slice_get (map deque_of passes) number ≡ Some (worker_deque lane)
  pub fifo : worker_flavor lane ≡ 0
  pub room : 65536 ≤ worker_capacity lane
  pub index : worker_index lane ≤ pushes
  pub count : pushes ≡ length (worker_view lane).put
  pub few : length passes < whole
  pub first : worker_port lane ≡ 0
  pub knows : worker_view lane
      ≡ slip (whole - length passes) (worker_view lane).put [] (worker_view lane).known []
  pub takers : AreTakers passes
