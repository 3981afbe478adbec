-- What the hands knew, through their parting, the joining of their passes, and the end.
use Rattle.std.proofs.Common.{arith, ◌≡◌, ℕ, zero, suc, ◌<◌, ◌≤◌, ◌+◌, ◌-◌, inl, inr, All, IsPermutation, List, [], ◌∷◌, ◌++◌, length, map, set, take, drop, Result, Ok, Err, refl, sym, ap, ◌∙◌, subst, append-nil}
use mathlib.Core.List.{IsPrefix}
use Rattle.std.specs.Prelude.{sum_by, IfOk, OnOk}
use Rattle.std.specs.Global.{Global}
use Rattle.std.proofs.Math.ListN.{get_or}
use Rattle.std.proofs.lemmas.List.{length-set, get_or-map, get_or-set_same, get_or-set_other}
use Rattle.std.proofs.lemmas.List.Elements.{All-head, All-nil}
use Rattle.std.proofs.lemmas.List.Sorted.{All-permutation, IsPermutation-sym, sum_by-IsPermutation}
use Rattle.crossbeam_deque.specs.Handles.{Pass, view, worker_view}
use Rattle.cube_pool.specs.declared.slip.Slip.{Slip}
use Rattle.cube_pool.specs.Lanes.{History, Begins, HasOneHistory, fresh, joint, pushed_in, takings_in, weigh}
use Rattle.cube_pool.specs.Hands.{Deque, Doings, AreInOrder, AreTakers, HaveHistories, IsHand, IsHistoryOf, fetched_by, fetched_there, known_by, known_there, newcomer, pushed_by, taken_by}
use Rattle.cube_pool.specs.code.Closings.{Lane, Row, AreBecomingJoint, AreJoined, AreParted, AreEndsSoFar, AreRows, HasTakenIn, HaveOneHistory, IsOwnEnd, IsTakingIn, known_at, put_by, seen_at, taken_at, taken_over, taken_there}
use Rattle.cube_pool.proofs.Lanes.{weigh_append}
use Rattle.cube_pool.proofs.Lists.{IsFrontOf, all_longer, all_parts, all_popped, all_pushed, front_popped, get_or_any, last_is, length_pushed, same_or_not}
use Rattle.cube_pool.proofs.Parts.{sum_popped}

-- a hand is parted
module _ (hand : Doings) {number pushes : ℕ} (lane : Lane) (passes : List (Pass ℕ Slip Global)) (h : IsHand number pushes lane passes)
    (is_pushed : (worker_view lane).put ≡ hand.pushed) (is_known : (worker_view lane).known ≡ hand.known_by_pushes) where
  own_parted : IsOwnEnd hand lane
  own_parted = (is_pushed, ap (λ (v : Slip). v.taken) h.knows, is_known)

  pub owns_parted : (pool : List Deque) (all s t : List Doings) (lanes lanes' : List Lane) → s ≡ t ++ hand ∷ [] → lanes' ≡ lanes ++ lane ∷ [] → length s + length lanes ≡ length pool → IsFrontOf s all
      → ((k : ℕ) (d : Lane) → k < length lanes → (one : Doings) → IsOwnEnd (get_or all (length pool - 1 - k) one) (get_or lanes k d))
      → (k : ℕ) (d : Lane) → k < length lanes' → (one : Doings) → IsOwnEnd (get_or all (length pool - 1 - k) one) (get_or lanes' k d)
  owns_parted pool all s t lanes lanes' e el count front was =
      let P : ℕ → Lane → Type 0 = λ k l. (one : Doings) → IsOwnEnd (get_or all (length pool - 1 - k) one) l in
      let place : length t ≡ length pool - 1 - length lanes = omega (arith, count, length_pushed s t hand e) in
      let here : P (length lanes) lane = λ one.
      subst (λ (d : Doings). IsOwnEnd d lane) (last_is all s t hand one e front ∙ ap (λ (n : ℕ). get_or all n one) place) own_parted in
      all_pushed P lanes' lanes lane el was here

-- a hand's row is parted
module _ (k : ℕ) (s t : List Doings) (hand : Doings) (rows rows' : List Row) (row : Row) (e : s ≡ t ++ hand ∷ []) (er : rows' ≡ rows ++ row ∷ []) where
  pub fetched_parted : (h : ℕ → ℕ) → map taken_by row.items ≡ hand.fetched
      → sum_by (λ (r : Row). weigh h (taken_at k r)) rows' + sum_by (λ (d : Doings). weigh h (fetched_there k d)) t ≡ sum_by (λ (r : Row). weigh h (taken_at k r)) rows + sum_by (λ (d : Doings). weigh h (fetched_there k d)) s
  fetched_parted h is =
      let f : Row → ℕ = λ r. weigh h (taken_at k r) in
      let g : Doings → ℕ = λ d. weigh h (fetched_there k d) in
      let same : f row ≡ g hand = ap (λ (xs : List (List ℕ)). weigh h (get_or xs k [])) is in
      omega (arith, same, sum_popped f rows' rows row er, sum_popped g s t hand e)

  pub known_parted : (log : History) → map known_by row.items ≡ hand.known_by_fetches
      → All (λ (r : Row). IsPrefix (known_at k r) log) rows' → All (λ (d : Doings). IsPrefix (known_there k d) log) t
      → All (λ (r : Row). IsPrefix (known_at k r) log) rows × All (λ (d : Doings). IsPrefix (known_there k d) log) s
  known_parted log is all rest =
      let Q : Row → Type 0 = λ r. IsPrefix (known_at k r) log in
      let R : Doings → Type 0 = λ d. IsPrefix (known_there k d) log in
      let both = all_popped Q rows' rows row er all in
      let here : R hand = subst (λ (xs : List History). IsPrefix (get_or xs k []) log) is both.1 in
      (both.0, all_longer R s t hand e rest here)

-- what the passes of a row have seen
seen_taken : (row : List (Pass ℕ Slip Global)) (k : ℕ) → (seen_at k row).taken ≡ get_or (map taken_by row) k []
seen_taken [] k = refl
seen_taken (p ∷ row) zero = refl
seen_taken (p ∷ row) (suc k) = seen_taken row k

seen_known : (row : List (Pass ℕ Slip Global)) (k : ℕ) → (seen_at k row).known ≡ get_or (map known_by row) k []
seen_known [] k = refl
seen_known (p ∷ row) zero = refl
seen_known (p ∷ row) (suc k) = seen_known row k

seen_put : (row : List (Pass ℕ Slip Global)) (k : ℕ) → AreTakers row → (seen_at k row).put ≡ []
seen_put [] k takers = refl
seen_put (p ∷ row) zero takers = ap (λ (v : Slip). v.put) (takers 0 p (omega arith)).2
seen_put (p ∷ row) (suc k) takers = seen_put row k (λ j d l. takers (suc j) d (omega (arith, l)))

-- a pass of a row is taken in
module _ (old lanes : List Lane) (row s t : List (Pass ℕ Slip Global)) (pass : Pass ℕ Slip Global) (lane lane' : Lane) (place : ℕ) (e : s ≡ t ++ pass ∷ [])
    (front : IsFrontOf s row) (count : length lanes ≡ length row) (few : length s ≤ length row) (at : place ≡ length lanes - 1 - length t)
    (is : lane ≡ get_or lanes place lane) (knows : worker_view lane' ≡ joint (worker_view lane) (view pass)) where
  longer : length s ≡ length t + 1
  longer = length_pushed s t pass e

  within : place < length lanes
  within = omega (arith, longer, at, count, few)

  seen : view pass ≡ seen_at (length t) row
  seen =
      ap (λ (p : Pass ℕ Slip Global). view p) (last_is row s t pass pass e front)
      ∙ sym (get_or-map (λ (p : Pass ℕ Slip Global). view p) row (length t) pass fresh (omega (arith, longer, few)))

  pub row_left_front : IsFrontOf t row
  row_left_front = front_popped row s t pass e front

  pub becomes_joint : AreBecomingJoint (length s) old row lanes → AreBecomingJoint (length t) old row (set lanes place lane')
  becomes_joint was k d l = elim (same_or_not k place) [
    | inl i ↦
        (let back : length t ≡ length row - 1 - k = omega (arith, i, at, longer, count, few) in
        let now : get_or (set lanes place lane') k d ≡ lane' = ap (λ (n : ℕ). get_or (set lanes place lane') n d) i ∙ get_or-set_same lanes place lane' d within in
        let before : worker_view (get_or lanes place d) ≡ worker_view (get_or old place d) = (was place d within).1 (omega (arith, at, longer, count, few)) in
        let a : worker_view lane ≡ worker_view (get_or old k d) =
        ap (λ (x : Lane). worker_view x) (is ∙ get_or_any lanes place lane d within) ∙ (before ∙ ap (λ (n : ℕ). worker_view (get_or old n d)) (sym i)) in
        let b : view pass ≡ seen_at (length row - 1 - k) row = seen ∙ ap (λ (n : ℕ). seen_at n row) back in
        let all : worker_view (get_or (set lanes place lane') k d) ≡ joint (worker_view (get_or old k d)) (seen_at (length row - 1 - k) row) =
        ap (λ (x : Lane). worker_view x) now ∙ (knows ∙ (ap (λ (v : Slip). joint v (view pass)) a ∙ ap (λ (w : Slip). joint (worker_view (get_or old k d)) w) b)) in
        (λ _. all, λ low. absurd (omega (arith, low, back))))
    | inr ne ↦
        (let there : k < length lanes = omega (arith, l, length-set lanes place lane') in
        let same : get_or (set lanes place lane') k d ≡ get_or lanes k d = get_or-set_other lanes place k lane' d ne in (
          λ high. ap (λ (x : Lane). worker_view x) same ∙ (was k d there).0 (omega (arith, high, ne, at, longer, count, few, there)),
          λ low. ap (λ (x : Lane). worker_view x) same ∙ (was k d there).1 (omega (arith, low, longer)),
        ))
  ]

-- the end of one deque takes in its pass of a row
module _ (k : ℕ) (rows s t : List Row) (row : Row) (old now new : Slip) (e : s ≡ t ++ row ∷ []) (takers : AreTakers row.items) (is : new ≡ joint now (seen_at k row.items)) where
  pub takes_in : IsTakingIn k s rows old now → IsTakingIn k t rows old new
  takes_in was = record {
    put = ap (λ (v : Slip). v.put) is ∙ (ap (λ (l : List ℕ). now.put ++ l) (seen_put row.items k takers) ∙ (append-nil now.put ∙ was.put));
    taken = λ h. (
        let f : Row → ℕ = λ r. weigh h (taken_at k r) in
        let one : weigh h new.taken ≡ weigh h (now.taken ++ (seen_at k row.items).taken) = ap (λ (v : Slip). weigh h v.taken) is in
        let two : weigh h (seen_at k row.items).taken ≡ f row = ap (weigh h) (seen_taken row.items k) in
        let three = was.taken h in
        omega (arith, one, two, three, weigh_append h now.taken (seen_at k row.items).taken, sum_popped f s t row e));
    fronts = λ log b. (
        let F : History → Type 0 = λ front. IsPrefix front log in
        let Q : Row → Type 0 = λ r. IsPrefix (known_at k r) log in
        let v : Slip = seen_at k row.items in
        let c : Begins log (joint now v) = subst (Begins log) is b in
        let parts = all_parts F now.joined (v.known ∷ v.joined) c.1 in
        let here : Q row = subst (λ (front : History). IsPrefix front log) (seen_known row.items k) (All-head F v.known v.joined parts.1) in
        let before = was.fronts log (c.0, parts.0) in
        (before.0, λ rest. before.1 (all_longer Q s t row e rest here)));
  }

-- no row is left
pub has_taken_in : (k : ℕ) (left rows : List Row) (old new : Slip) → length left ≡ 0 → IsTakingIn k left rows old new → HasTakenIn k rows old new
has_taken_in k [] rows old new none was = record {
  put = was.put;
  taken = λ h. (let t = was.taken h in omega (arith, t));
  fronts = λ log b. (let f = was.fronts log b in (f.0, f.1 (All-nil (λ (r : Row). IsPrefix (known_at k r) log))));
}
has_taken_in k (row ∷ left) rows old new none was = absurd (omega (arith, none))

pub none_over : (h : ℕ → ℕ) (rows : List Row) → length rows ≡ 0 → taken_over h rows ≡ 0
none_over h [] none = refl
none_over h (row ∷ rows) none = absurd (omega (arith, none))

-- no hand is left
pub all_parted : (pool : List Deque) (hands left : List Doings) (lanes : List Lane) (rows : List Row) → length left ≡ 0 → length left + length lanes ≡ length pool → length rows ≡ length lanes
    → AreEndsSoFar pool lanes → AreRows pool rows
    → ((h : ℕ → ℕ) → put_by h lanes + pushed_by h left ≡ pushed_by h hands)
    → ((h : ℕ → ℕ) → (taken_there h lanes + taken_over h rows) + fetched_by h left ≡ fetched_by h hands)
    → ((k : ℕ) (d : Lane) → k < length lanes → (one : Doings) → IsOwnEnd (get_or hands (length pool - 1 - k) one) (get_or lanes k d))
    → ((k : ℕ) (h : ℕ → ℕ) → sum_by (λ (r : Row). weigh h (taken_at k r)) rows + sum_by (λ (d : Doings). weigh h (fetched_there k d)) left ≡ sum_by (λ (d : Doings). weigh h (fetched_there k d)) hands)
    → ((k : ℕ) (log : History) → All (λ (r : Row). IsPrefix (known_at k r) log) rows → All (λ (d : Doings). IsPrefix (known_there k d) log) left → All (λ (d : Doings). IsPrefix (known_there k d) log) hands)
    → AreParted pool hands lanes rows
all_parted pool hands [] lanes rows none count same ends all put taken own fetched known =
    let many : length lanes ≡ length pool = omega (arith, count) in
    record {
      ends = (many, ends);
      all = all;
      count = same ∙ many;
      put = λ h. (let p = put h in omega (arith, p));
      taken = λ h. (let t = taken h in omega (arith, t));
      own = own;
      fetched = λ k h. (let f = fetched k h in omega (arith, f));
      known = λ k log a. known k log a (All-nil (λ (d : Doings). IsPrefix (known_there k d) log));
    }
all_parted pool hands (hand ∷ left) lanes rows none count same ends all put taken own fetched known = absurd (omega (arith, none))

weigh_first : (h : ℕ → ℕ) (n : ℕ) (xs : List ℕ) → weigh h xs ≡ weigh h (take n xs) + weigh h (drop n xs)
weigh_first h zero xs = omega arith
weigh_first h (suc n) [] = refl
weigh_first h (suc n) (x ∷ xs) = omega (arith, weigh_first h n xs)

-- all hands in their order
module _ (pool : List Deque) (hands : List Doings) (old : List Lane) (rows : List Row) (lanes : List Lane) (order : AreInOrder pool hands)
    (parted : AreParted pool hands old rows) (joined : AreJoined pool old rows lanes) (told : HaveOneHistory lanes) where
  one_history : Lane → (k : ℕ) → k < length pool → (log : History) × IsHistoryOf hands k log
  one_history d k l =
      let j : ℕ = length pool - 1 - k in
      let back : length pool - 1 - j ≡ k = omega (arith, l) in
      let there : j < length lanes = omega (arith, l, joined.ends.0) in
      let there_before : j < length old = omega (arith, l, parted.ends.0) in
      let last : Slip = worker_view (get_or lanes j d) in
      let own_end : Slip = worker_view (get_or old j d) in
      let one : HasOneHistory last = told j d there in
      let log : History = one.log in
      let took : HasTakenIn k rows own_end last = subst (λ (n : ℕ). HasTakenIn n rows own_end last) back (joined.each j d there) in
      let own : (i : ℕ) (hand : Doings) → i ≡ k → IsOwnEnd (get_or hands i hand) (get_or old j d) =
      λ i hand e. subst (λ (n : ℕ). IsOwnEnd (get_or hands n hand) (get_or old j d)) (back ∙ sym e) (parted.own j d there_before hand) in
      let fronts = took.fronts log one.begins in (
        log,
        record {
          legal = one.legal;
          own = λ i hand less is. (
              let e : i ≡ k = sym (order.1 i hand less).1 ∙ is in
              let mine = own i hand e in
              (sym mine.0 ∙ (sym took.put ∙ one.pushed), subst (λ (front : History). IsPrefix front log) mine.2 fronts.0.0));
          known = parted.known k log fronts.1;
          fetched = λ h. (
              let none : weigh h own_end.taken ≡ 0 = ap (weigh h) (own k (newcomer pool k) refl).1 in
              let put : weigh h last.put ≡ weigh h (pushed_in log) = ap (weigh h) one.pushed in
              let settled = one.settled h in
              let taken = took.taken h in
              let same = parted.fetched k h in
              omega (arith, none, put, settled, taken, same, weigh_first h (takings_in log) (pushed_in log)));
        },
      )

have_histories : (pool : List Deque) (hands : List Doings) (old : List Lane) (rows : List Row) (lanes : List Lane) → AreInOrder pool hands → AreParted pool hands old rows → AreJoined pool old rows lanes → HaveOneHistory lanes → HaveHistories pool hands
have_histories pool hands old rows [] order parted joined told k l = absurd (omega (arith, l, joined.ends.0))
have_histories pool hands old rows (lane ∷ lanes) order parted joined told k l = one_history pool hands old rows (lane ∷ lanes) order parted joined told lane k l

-- and in any order
pub all_histories : (pool : List Deque) (hands sorted : List Doings) (old : List Lane) (rows : List Row) (lanes : List Lane) → IsPermutation hands sorted → AreInOrder pool sorted → AreParted pool sorted old rows
    → AreJoined pool old rows lanes → HaveOneHistory lanes → HaveHistories pool hands
all_histories pool hands sorted old rows lanes permuted order parted joined told k l =
    let one = have_histories pool sorted old rows lanes order parted joined told k l in
    let log : History = one.0 in
    let back : IsPermutation sorted hands = IsPermutation-sym hands sorted permuted in (
      log,
      record {
        legal = one.1.legal;
        own = All-permutation (λ (hand : Doings). hand.number ≡ k → (hand.pushed ≡ pushed_in log) × IsPrefix hand.known_by_pushes log) sorted hands back one.1.own;
        known = All-permutation (λ (hand : Doings). IsPrefix (known_there k hand) log) sorted hands back one.1.known;
        fetched = λ h. sym (sum_by-IsPermutation (λ (hand : Doings). weigh h (fetched_there k hand)) hands sorted permuted) ∙ one.1.fetched h;
      },
    )

pub on_ok : {A E : Type 0} (P Q : Type 0) (r : Result A E) → (P → Q) → OnOk r P → IfOk r (λ (x : A). Q)
on_ok P Q (Ok x) f p = f p
on_ok P Q (Err e) f p = tt
