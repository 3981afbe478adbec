-- The rule of one deque: what was put is what was taken and what the deque holds, however the numbers are weighed; and
-- it has one history, in which the oldest number is taken first.
use Rattle.std.specs.Prelude.{◌≡◌, ℕ, ◌+◌, ◌-◌, ◌^◌, ◌≤◌, All, List, [], ◌∷◌, ◌++◌, length, map, take, drop, Option, slice_get}
use mathlib.Core.Option.{some}
use mathlib.Core.List.{IsPrefix}
use lib.ListN.{get_elem?}
use Rattle.cube_pool.specs.declared.slip.Event.{Event}
use Rattle.cube_pool.specs.declared.slip.Event.TheVariants.{Pushed, Taken}
use Rattle.cube_pool.specs.declared.slip.Slip.{Slip}

-- what happened to a deque, in order
abbrev pub History : Type 0
History = List Event

-- the numbers that were pushed, in order
abbrev pub pushed_in : History → List ℕ
pushed_in [] = []
pushed_in (Pushed n ∷ log) = n ∷ pushed_in log
pushed_in (Taken ∷ log) = pushed_in log

-- how many were taken
abbrev pub takings_in : History → ℕ
takings_in [] = 0
takings_in (Pushed n ∷ log) = takings_in log
takings_in (Taken ∷ log) = 1 + takings_in log

-- the first ones were taken, and the others are left, of which one is the oldest
abbrev pub first_taken : History → List ℕ
first_taken log = take (takings_in log) (pushed_in log)

abbrev pub left_in : History → List ℕ
left_in log = drop (takings_in log) (pushed_in log)

abbrev pub oldest_in : History → Option ℕ
oldest_in log = slice_get (pushed_in log) (takings_in log)

-- at no time was more taken than was pushed
abbrev pub IsLegal : History → Type 0
IsLegal log = (front : History) → IsPrefix front log → takings_in front ≤ length (pushed_in front)

abbrev pub slip : ℕ → List ℕ → List ℕ → History → List History → Slip
slip parts put taken known joined = record { parts = parts; put = put; taken = taken; known = known; joined = joined }

-- all parts of the right to know the whole
abbrev pub whole : ℕ
whole = 2 ^ 32

-- a pass that is split off, and what the other one keeps
abbrev pub fresh : Slip
fresh = slip 1 [] [] [] []

abbrev pub lessened : Slip → Slip
lessened v = slip (v.parts - 1) v.put v.taken v.known v.joined

-- a pass that has taken in another: it keeps what both know of the history
abbrev pub joint : Slip → Slip → Slip
joint v w = slip (v.parts + w.parts) (v.put ++ w.put) (v.taken ++ w.taken) v.known (v.joined ++ w.known ∷ w.joined)

-- the weights of the numbers, added up
abbrev pub weigh : (ℕ → ℕ) → List ℕ → ℕ
weigh h [] = 0
weigh h (x ∷ xs) = h x + weigh h xs

-- f of each pass, added up
abbrev pub total : (Slip → ℕ) → List Slip → ℕ
total f [] = 0
total f (v ∷ vs) = f v + total f vs

-- a pass without a part has put and taken nothing
abbrev pub IdleIsEmpty : List Slip → Type 0
IdleIsEmpty views =
    (port : ℕ) (v : Slip) → get_elem? views port ≡ some v → v.parts ≡ 0 → (v.put ≡ []) × (v.taken ≡ [])

-- the history begins with each front that the pass knows
abbrev pub Begins : History → Slip → Type 0
Begins log v = IsPrefix v.known log × All (λ (front : History). IsPrefix front log) v.joined

-- the deque holds what its history leaves, and each pass knows fronts of it; the first one alone pushes
pub record HasHistory (items : List ℕ) (views : List Slip) : Type 0 where
  pub log : History
  pub legal : IsLegal log
  pub left : items ≡ left_in log
  pub fronts : (port : ℕ) (v : Slip) → get_elem? views port ≡ some v → Begins log v
  pub first : (v : Slip) → get_elem? views 0 ≡ some v → v.put ≡ pushed_in log

abbrev pub Balanced : List ℕ → List Slip → Type 0
Balanced items views =
    (total (λ v. v.parts) views ≡ whole)
    × ((h : ℕ → ℕ) → total (λ v. weigh h v.put) views ≡ total (λ v. weigh h v.taken) views + weigh h items)
    × IdleIsEmpty views
    × HasHistory items views

-- a push: what is known of the history goes on to this push, which comes behind all earlier ones
abbrev pub HasPut : Slip → List ℕ → Slip → Type 0
HasPut v xs w =
    (log : History) × IsPrefix v.known log × (v.put ≡ pushed_in log)
    × (w ≡ slip v.parts (v.put ++ xs) v.taken (log ++ map (λ (x : ℕ). Pushed x) xs) v.joined)

-- a taking: what is known of the history goes on to this taking, by which the oldest number comes
abbrev pub HasTaken : Slip → List ℕ → Slip → Type 0
HasTaken v xs w =
    (log : History) × IsPrefix v.known log × (oldest_in log ≡ slice_get xs 0)
    × (w ≡ slip v.parts v.put (v.taken ++ xs) (log ++ Taken ∷ []) v.joined)

-- what was put is what was taken and what is left, each number as often, and however they are weighed
abbrev pub IsSettled : List ℕ → List ℕ → List ℕ → Type 0
IsSettled put taken left = (h : ℕ → ℕ) → weigh h put ≡ weigh h taken + weigh h left

-- of the code: one history of which a pass with all parts knows
pub record HasOneHistory (v : Slip) : Type 0 where
  pub log : History
  pub legal : IsLegal log
  pub begins : Begins log v
  pub pushed : v.put ≡ pushed_in log
  pub settled : IsSettled v.put v.taken (left_in log)
