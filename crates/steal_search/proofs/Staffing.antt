-- Seats are split for the workers, and joined again.
use Rattle.std.proofs.Common.{arith, All, ◌≡◌, ◌≢◌, ℕ, suc, ◌+◌, ◌<◌, ◌≤◌, inl, inr, List, [], ◌∷◌, ◌++◌, length, Some, None, Bool, true, false, refl, sym, ap, ◌∙◌, subst}
use Rattle.std.specs.Prelude.{IsSome, IfSome, Option, cond, is_some, ◌==◌}
use Rattle.std.proofs.Math.ListN.{get_or}
use Rattle.std.proofs.lemmas.Bool.Decides.{nat_tests}
use Rattle.stn_core.specs.declared.problem.Problem.{Problem}
use Rattle.book_core.specs.declared.event.Event.{Event}
use Rattle.book_lock.specs.declared.view.View.{View}
use Rattle.book_lock.specs.declared.view.Kept.{Kept}
use Rattle.book_lock.specs.Rules.{kept_of}
use Rattle.book_lock.specs.Seats.{Place, Sight, sight, merged, counted, newcomer}
use Rattle.std.proofs.lemmas.Option.{get_or_from_slice_get}
use Rattle.std.proofs.lemmas.List.Elements.{All-nil, All-from_get_or}
use Rattle.cube_pool.specs.Hands.{AreHandsOf, AreInOrder, AreNewcomers, Deque, Doings, newcomer as newcomer_hand, times}
use Rattle.cube_pool.proofs.Orders.{is_none, is_one, times_more}
use Rattle.cube_pool.proofs.Lists.{first_of, last_of, all_pushed, length_pushed, same_or_not}
use Rattle.steal_search.specs.declared.dealing.Pace.{Pace}
use Rattle.steal_search.specs.declared.shared.Worker.{Worker}
use Rattle.steal_search.specs.code.Staff.{AllMayWork, AreHanded, AreSeated, IsFirst, MayWork}

-- the last worker's seat is joined
module _ (desk : Place) (problem : Problem) (n : ℕ) (s t : List Worker) (w : Worker) (e : s ≡ t ++ w ∷ []) (seats : AreSeated desk s) (old new : Sight)
    (first : IsFirst desk problem n old) (is : new ≡ sight old.desk (merged old.view w.seat.view) old.lemmas old.cube old.halves) where
  abbrev IsSeat : ℕ → Worker → Type 0
  IsSeat k d = (d.seat.desk ≡ desk.id) × (d.seat.view.number ≡ k + 1) × (d.seat.cube ≡ None)

  pub seats_left : AreSeated desk t
  seats_left = first_of IsSeat s t w e seats

  pub first_joined : IsFirst desk problem n new
  first_joined = record {
    desk_is = ap (λ (x : Sight). x.desk) is ∙ first.desk_is;
    problem_is = ap (λ (x : Sight). x.view.begun.problem) is ∙ first.problem_is;
    number = ap (λ (x : Sight). x.view.number) is ∙ first.number;
    count = ap (λ (x : Sight). x.view.seats) is ∙ first.count;
    none = ap (λ (x : Sight). x.cube) is ∙ first.none;
  }

  kept_there : (m : ℕ) (k : Kept) (ks : List Kept) (b : Bool) → (k.number == m) ≡ b → (k.number ≢ m → IsSome (kept_of m ks)) → IsSome (cond b (Some k.events) (kept_of m ks))
  kept_there m k ks true test h = refl
  kept_there m k ks false test h = h (λ same. (let yes : (k.number == m) ≡ true = grind (arith, nat_tests) in absurd (cc (yes, test))))

  pub kept_more : ((m : ℕ) → length s < m → m < old.view.seats → IsSome (kept_of m old.view.kept)) → (m : ℕ) → length t < m → m < new.view.seats → IsSome (kept_of m new.view.kept)
  kept_more was m low high =
      let seat = last_of IsSeat s t w e seats in
      let popped = length_pushed s t w e in
      let count : new.view.seats ≡ old.view.seats = ap (λ (x : Sight). x.view.seats) is in
      let mine : Kept = record { number = w.seat.view.number; front = w.seat.view.front; events = w.seat.view.events } in
      let kept : new.view.kept ≡ mine ∷ old.view.kept = ap (λ (x : Sight). x.view.kept) is in
      subst (λ (ks : List Kept). IsSome (kept_of m ks)) (sym kept)
      (kept_there m mine old.view.kept (mine.number == m) refl (λ ne. was m (omega (arith, popped, low, ne, seat.1)) (omega (arith, high, count))))

-- a worker more
module _ (desk : Place) (problem : Problem) (pool : List Deque) (all more : List Worker) (w : Worker) (e : more ≡ all ++ w ∷ []) (old new made : Sight)
    (first : IsFirst desk problem (length all + 1) old) (is : new ≡ sight old.desk (counted old.view) old.lemmas old.cube old.halves)
    (seat_is : made ≡ sight old.desk (newcomer old.view) old.lemmas None None) (has : w.seat ≡ made) where
  pub first_split : IsFirst desk problem (length more + 1) new
  first_split =
      let longer = length_pushed more all w e in
      let count : new.view.seats ≡ old.view.seats + 1 = ap (λ (x : Sight). x.view.seats) is in
      record {
        desk_is = ap (λ (x : Sight). x.desk) is ∙ first.desk_is;
        problem_is = ap (λ (x : Sight). x.view.begun.problem) is ∙ first.problem_is;
        number = ap (λ (x : Sight). x.view.number) is ∙ first.number;
        count = omega (arith, longer, count, first.count);
        none = ap (λ (x : Sight). x.cube) is ∙ first.none;
      }

  seat : w.seat ≡ sight old.desk (newcomer old.view) old.lemmas None None
  seat = has ∙ seat_is

  pub seats_more : AreSeated desk all → AreSeated desk more
  seats_more was = all_pushed (λ k d. (d.seat.desk ≡ desk.id) × (d.seat.view.number ≡ k + 1) × (d.seat.cube ≡ None)) more all w e was
      (ap (λ (x : Sight). x.desk) seat ∙ first.desk_is, ap (λ (x : Sight). x.view.number) seat ∙ first.count, ap (λ (x : Sight). x.cube) seat)

  pub work_more : AllMayWork desk problem pool all → w.hand.pool ≡ pool → IfSome w.pace (λ (pace : Pace). pace.tools ≡ problem.points) → AllMayWork desk problem pool more
  work_more was hand pace = all_pushed (λ k d. MayWork desk problem pool d) more all w e was (record {
    desk_is = ap (λ (x : Sight). x.desk) seat ∙ first.desk_is;
    problem_is = ap (λ (x : Sight). x.view.begun.problem) seat ∙ first.problem_is;
    none = ap (λ (x : Sight). x.cube) seat;
    pool_is = hand;
    pace = pace;
  })

-- a hand by its number, and as the worker's at a place
abbrev pub IsHandAt : List Deque → ℕ → Doings → Type 0
IsHandAt pool k hand = (hand.pool ≡ pool) × (hand.number ≡ k)

abbrev pub IsHandedAt : List Deque → ℕ → Worker → Type 0
IsHandedAt pool k worker = (worker.hand.pool ≡ pool) × (worker.hand.number + (k + 1) ≡ length pool)

-- the last hand goes to the next worker
pub handed_more : (pool : List Deque) (hands rest : List Doings) (hand : Doings) (all more : List Worker) (w : Worker) → hands ≡ rest ++ hand ∷ [] → more ≡ all ++ w ∷ [] → w.hand ≡ hand → length all + length hands ≡ length pool
    → ((k : ℕ) (d : Doings) → k < length hands → IsHandAt pool k (get_or hands k d)) → AreHanded pool all → AreHanded pool more
handed_more pool hands rest hand all more w e f is many has was =
    let last = last_of (IsHandAt pool) hands rest hand e has in
    let popped = length_pushed hands rest hand e in
    let number : w.hand.number ≡ length rest = ap (λ (h : Doings). h.number) is ∙ last.1 in
    all_pushed (IsHandedAt pool) more all w f was (ap (λ (h : Doings). h.pool) is ∙ last.0, omega (arith, number, popped, many))

-- the last worker's hand comes behind those that came before
pub hands_more : (pool : List Deque) (s t : List Worker) (w : Worker) (before after : List Doings) → s ≡ t ++ w ∷ [] → after ≡ before ++ w.hand ∷ [] → length before + length s ≡ length pool
    → AreHanded pool s → ((k : ℕ) (d : Doings) → k < length before → IsHandAt pool k (get_or before k d)) → (k : ℕ) (d : Doings) → k < length after → IsHandAt pool k (get_or after k d)
hands_more pool s t w before after e f many handed was =
    let last = last_of (IsHandedAt pool) s t w e handed in
    let popped = length_pushed s t w e in
    all_pushed (IsHandAt pool) after before w.hand f was (last.0, omega (arith, last.1, popped, many))

pub handed_left : (pool : List Deque) (s t : List Worker) (w : Worker) → s ≡ t ++ w ∷ [] → AreHanded pool s → AreHanded pool t
handed_left pool s t w e handed = first_of (IsHandedAt pool) s t w e handed

-- hands by their numbers from m on: each number once
abbrev AreFrom : ℕ → List Doings → Type 0
AreFrom m hands = (k : ℕ) (d : Doings) → k < length hands → (get_or hands k d).number ≡ m + k

rest_from : (m : ℕ) (x : Doings) (xs : List Doings) → AreFrom m (x ∷ xs) → AreFrom (m + 1) xs
rest_from m x xs h k d l = let there : (get_or xs k d).number ≡ m + suc k = h (suc k) d (omega (arith, l)) in omega (arith, there)

first_number : (m : ℕ) (x : Doings) (xs : List Doings) → AreFrom m (x ∷ xs) → x.number ≡ m
first_number m x xs h = let there : x.number ≡ m + 0 = h 0 x (omega arith) in omega (arith, there)

none_below : (m n : ℕ) (xs : List Doings) → AreFrom m xs → n < m → times n xs ≡ 0
none_below m n [] h low = refl
none_below m n (x ∷ xs) h low =
    omega (arith, times_more n x xs, is_none n x (λ e. absurd (omega (arith, e, low, first_number m x xs h))), none_below (m + 1) n xs (rest_from m x xs h) (omega (arith, low)))

once_from : (m n : ℕ) (xs : List Doings) → AreFrom m xs → m ≤ n → n < m + length xs → times n xs ≡ 1
once_from m n [] h low high = absurd (omega (arith, low, high))
once_from m n (x ∷ xs) h low high = elim (same_or_not n m) [
  | inl is ↦ omega (arith, times_more n x xs, is_one n x (omega (arith, is, first_number m x xs h)), none_below (m + 1) n xs (rest_from m x xs h) (omega (arith, is)))
  | inr ne ↦ omega (arith, times_more n x xs, is_none n x (λ e. absurd (omega (arith, e, ne, first_number m x xs h))), once_from (m + 1) n xs (rest_from m x xs h) (omega (arith, low, ne)) (omega (arith, high)))
]

pools_of : (pool : List Deque) (hands : List Doings) → AreInOrder pool hands → All (λ (hand : Doings). hand.pool ≡ pool) hands
pools_of pool [] h = All-nil (λ (hand : Doings). hand.pool ≡ pool)
pools_of pool (x ∷ xs) h = All-from_get_or (λ (hand : Doings). hand.pool ≡ pool) (x ∷ xs) x (λ k l. (h.1 k x l).0)

pub all_hands : (pool : List Deque) (hands : List Doings) → AreInOrder pool hands → AreHandsOf pool hands
all_hands pool hands h = (h.0, pools_of pool hands h, λ n l. once_from 0 n hands (λ k d less. omega (arith, (h.1 k d less).1)) (omega arith) (omega (arith, l, h.0)))

-- the hands that a pool hands out are in order
pub newcomers : (pool : List Deque) (workers : ℕ) (hands : List Doings) → AreNewcomers workers pool hands → AreInOrder pool hands
newcomers pool workers hands new = (
  omega (arith, new.0, new.1),
  λ k d l. (let is : get_or hands k d ≡ newcomer_hand pool k = get_or_from_slice_get hands k (newcomer_hand pool k) d (new.2 k (omega (arith, l, new.1))) in
      (ap (λ (h : Doings). h.pool) is, ap (λ (h : Doings). h.number) is)),
)
