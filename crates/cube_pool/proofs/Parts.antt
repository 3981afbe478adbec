-- Hands' parts: deques' ends and rows of passes.
use Rattle.std.proofs.Common.{arith, ◌≡◌, ◌≢◌, ℕ, ◌<◌, ◌≤◌, ◌+◌, ◌-◌, List, [], ◌∷◌, ◌++◌, length, map, set, take, Option, Some, None, MatchOption, Result, Ok, Err, sym, ap, ◌∙◌, subst}
use mathlib.Core.List.{IsPrefix}
use Rattle.std.specs.Prelude.{slice_get, sum_by, option_map, OnOk, IfErr}
use Rattle.std.specs.Global.{Global}
use Rattle.std.proofs.Math.ListN.{get_or}
use Rattle.std.proofs.Math.Seq.{map-set_same}
use Rattle.std.proofs.lemmas.List.{length-append, length-map, length-set, map_push, map-set, get_or-map}
use Rattle.std.proofs.lemmas.List.Sums.{sum_by_push, sum_by-set}
use Rattle.std.proofs.lemmas.Option.{slice_get-map, slice_get-get_or}
use Rattle.crossbeam_deque.specs.Handles.{Pass, view, SamePass, SameWorker, stealer_deque, worker_deque, worker_index, worker_port, worker_view, IsPassOf}
use Rattle.cube_pool.specs.declared.slip.Event.TheVariants.{Pushed, Taken}
use Rattle.cube_pool.specs.declared.slip.Slip.{Slip}
use Rattle.crossbeam_deque.specs.declared.handles.Stealer.{Stealer}
use Rattle.cube_pool.specs.declared.lane.Fair.{Fair}
use Rattle.cube_pool.specs.declared.lane.Full.{Full}
use Rattle.cube_pool.specs.Lanes.{History, HasPut, HasTaken, fresh, joint, lessened, slip, whole, weigh, IsSettled}
use Rattle.cube_pool.specs.Hands.{Deque, Doings, HasFetched, HasPushed, IsHand, IsTaker, AreTakers, deque_of, known_by, taken_by, weigh_all, pushed_by, fetched_by, newcomer}
use Rattle.cube_pool.specs.code.Closings.{Lane, Row, IsEnd, AreHandsLeft, AreJoining, IsRow, IsOpenWith, AreSplit, IsFreshRow, deques, put_by, taken_there, taken_in, taken_over}
use Rattle.cube_pool.proofs.Lanes.{weigh_append}
use Rattle.cube_pool.proofs.Lists.{length_pushed, first_of, last_of, all_pushed, all_set, heads, take_more, sum_by_map, same_at}

-- a sum over a list without its last element
pub sum_popped : {A : Type 0} (f : A → ℕ) (s t : List A) (x : A) → s ≡ t ++ x ∷ [] → sum_by f s ≡ sum_by f t + f x
sum_popped f s t x e = ap (sum_by f) e ∙ sum_by_push f t x

-- the last deque is drained
module _ (all s t : List Lane) (lane : Lane) (left rest more : List ℕ) (e : s ≡ t ++ lane ∷ []) (longer : more ≡ left ++ rest) where
  pub drained : (h : ℕ → ℕ) → put_by h all + taken_there h s ≡ (taken_there h all + put_by h s) + weigh h left
      → IsSettled (worker_view lane).put (worker_view lane).taken rest → put_by h all + taken_there h t ≡ (taken_there h all + put_by h t) + weigh h more
  drained h before settled =
      let one : weigh h more ≡ weigh h left + weigh h rest = ap (weigh h) longer ∙ weigh_append h left rest in
      let two : put_by h s ≡ put_by h t + weigh h (worker_view lane).put = sum_popped (λ (l : Lane). weigh h (worker_view l).put) s t lane e in
      let three : taken_there h s ≡ taken_there h t + weigh h (worker_view lane).taken = sum_popped (λ (l : Lane). weigh h (worker_view l).taken) s t lane e in
      let four = settled h in
      omega (arith, one, two, three, four)

-- a hand is parted
module _ (pool : List Deque) (s t : List Doings) (hand : Doings) (number pushes : ℕ) (lane : Lane) (passes : List (Pass ℕ Slip Global))
    (e : s ≡ t ++ hand ∷ []) (h : IsHand number pushes lane passes) (hands : AreHandsLeft pool s)
    (is_pool : map deque_of passes ≡ hand.pool) (is_number : number ≡ hand.number) (is_pushed : (worker_view lane).put ≡ hand.pushed) (is_fetched : map taken_by passes ≡ hand.fetched) where
  abbrev IsOfPool : ℕ → Doings → Type 0
  IsOfPool k one = (one.pool ≡ pool) × (one.number ≡ k)

  pub hands_left : AreHandsLeft pool t
  hands_left = first_of IsOfPool s t hand e hands

  here : (hand.pool ≡ pool) × (hand.number ≡ length t)
  here = last_of IsOfPool s t hand e hands

  pub row_parted : IsRow pool passes
  row_parted = (is_pool ∙ here.0, h.takers)

  pub end_parted : (n : ℕ) → length t + n + 1 ≡ length pool → IsEnd (slice_get pool (length pool - 1 - n)) (whole - length pool) lane
  end_parted n count =
      let place : length pool - 1 - n ≡ number = omega (arith, is_number, here.1) in
      let own : slice_get pool (length pool - 1 - n) ≡ Some (worker_deque lane) = ap (slice_get pool) place ∙ (ap (λ (p : List Deque). slice_get p number) (sym row_parted.0) ∙ h.own) in
      let len : length passes ≡ length pool = sym (length-map passes deque_of) ∙ ap length row_parted.0 in
      let parts : (worker_view lane).parts ≡ whole - length passes = ap (λ (v : Slip). v.parts) h.knows in
      (own, h.fifo, parts ∙ ap (λ n. whole - n) len, h.first)

  pub put_parted : (w : ℕ → ℕ) (lanes lanes' : List Lane) → lanes' ≡ lanes ++ lane ∷ [] → put_by w lanes' + pushed_by w t ≡ put_by w lanes + pushed_by w s
  put_parted w lanes lanes' el =
      let one : put_by w lanes' ≡ put_by w lanes + weigh w (worker_view lane).put = sum_popped (λ (l : Lane). weigh w (worker_view l).put) lanes' lanes lane el in
      let two : pushed_by w s ≡ pushed_by w t + weigh w hand.pushed = sum_popped (λ (d : Doings). weigh w d.pushed) s t hand e in
      let same : weigh w (worker_view lane).put ≡ weigh w hand.pushed = ap (weigh w) is_pushed in
      omega (arith, one, two, same)

  pub taken_parted : (w : ℕ → ℕ) (lanes lanes' : List Lane) (rows rows' : List Row) (row : Row) → lanes' ≡ lanes ++ lane ∷ [] → rows' ≡ rows ++ row ∷ [] → row.items ≡ passes
      → (taken_there w lanes' + taken_over w rows') + fetched_by w t ≡ (taken_there w lanes + taken_over w rows) + fetched_by w s
  taken_parted w lanes lanes' rows rows' row el er is =
      let one : taken_there w lanes' ≡ taken_there w lanes + weigh w (worker_view lane).taken = sum_popped (λ (l : Lane). weigh w (worker_view l).taken) lanes' lanes lane el in
      let none : weigh w (worker_view lane).taken ≡ 0 = ap (λ (v : Slip). weigh w v.taken) h.knows in
      let two : taken_over w rows' ≡ taken_over w rows + taken_in w row.items = sum_popped (λ (r : Row). taken_in w r.items) rows' rows row er in
      let three : fetched_by w s ≡ fetched_by w t + weigh_all w hand.fetched = sum_popped (λ (d : Doings). weigh_all w d.fetched) s t hand e in
      let four : taken_in w row.items ≡ weigh_all w hand.fetched = ap (taken_in w) is ∙ (sym (sum_by_map (weigh w) taken_by passes) ∙ ap (weigh_all w) is_fetched) in
      omega (arith, one, none, two, three, four)

-- a pass is taken in
module _ (pool : List Deque) (lanes : List Lane) (place parts : ℕ) (s t : List (Pass ℕ Slip Global)) (pass : Pass ℕ Slip Global) (e : s ≡ t ++ pass ∷ [])
    (row : map deque_of s ≡ take (length s) pool) (takers : AreTakers s) (ends : AreJoining pool parts (length s) lanes) (few : length s ≤ length pool) (at : place ≡ length lanes - 1 - length t) where
  abbrev IsTakerAt : ℕ → Pass ℕ Slip Global → Type 0
  IsTakerAt k p = IsTaker p

  same_count : length s ≡ length t + 1
  same_count = length_pushed s t pass e

  row_of : (map deque_of t ≡ take (length t) pool) × (slice_get pool (length t) ≡ Some (deque_of pass))
  row_of = heads deque_of pool t pass (length s) (ap (map deque_of) (sym e) ∙ row) same_count

  pub row_left : map deque_of t ≡ take (length t) pool
  row_left = row_of.0

  pub takers_left : AreTakers t
  takers_left = first_of IsTakerAt s t pass e takers

  taker : IsTaker pass
  taker = last_of IsTakerAt s t pass e takers

  pub in_range : place < length lanes
  in_range = omega (arith, same_count, ends.0)

  back : length pool - 1 - place ≡ length t
  back = omega (arith, same_count, ends.0)

  end_at : (d : Lane) → IsEnd (slice_get pool (length pool - 1 - place)) parts (get_or lanes place d)
  end_at d = (ends.1 place d in_range).1 (omega (arith, back, same_count))

  pub joins_own : (lane : Lane) → lane ≡ get_or lanes place lane → IsPassOf (worker_deque lane) pass × ((worker_view lane).parts ≡ parts) × (worker_port lane ≡ 0)
  joins_own lane is =
      let there = subst (IsEnd (slice_get pool (length pool - 1 - place)) parts) (sym is) (end_at lane) in
      let one : Some (deque_of pass) ≡ Some (worker_deque lane) = sym row_of.1 ∙ (ap (slice_get pool) (sym back) ∙ there.0) in
      let same : deque_of pass ≡ worker_deque lane = cc one in
      ((ap (λ (x : Deque). x.0) same, ap (λ (x : Deque). x.1) same, taker.0, taker.1), there.2, there.3)

  pub put_nothing : (view pass).put ≡ []
  put_nothing = ap (λ (v : Slip). v.put) taker.2

  -- the ends after it
  pub joining : (lane lane' : Lane) → lane ≡ get_or lanes place lane → SameWorker lane lane'
      → worker_view lane' ≡ joint (worker_view lane) (view pass)
      → AreJoining pool parts (length t) (set lanes place lane')
  joining lane lane' is same knows = (length-set lanes place lane' ∙ ends.0, all_set P lanes place lane' in_range here others)
    where
      P : ℕ → Lane → Type 0
      P k l = (length t ≤ length pool - 1 - k → IsEnd (slice_get pool (length pool - 1 - k)) (parts + 1) l) × (length pool - 1 - k < length t → IsEnd (slice_get pool (length pool - 1 - k)) parts l)

      there : IsEnd (slice_get pool (length pool - 1 - place)) parts lane
      there = subst (IsEnd (slice_get pool (length pool - 1 - place)) parts) (sym is) (end_at lane)

      one : (view pass).parts ≡ 1
      one = ap (λ (v : Slip). v.parts) taker.2

      now : (worker_view lane').parts ≡ (worker_view lane).parts + (view pass).parts
      now = ap (λ (v : Slip). v.parts) knows

      here : P place lane'
      here = ((λ _. (there.0 ∙ ap (λ (d : Deque). Some d) (sym same.0), same.1 ∙ there.1, omega (arith, one, now, there.2), same.2 ∙ there.3)), (λ l. absurd (omega (arith, back))))

      others : (k : ℕ) (d : Lane) → k ≢ place → k < length lanes → P k (get_or lanes k d)
      others k d ne few = (
        (λ l. (ends.1 k d few).0 (omega (arith, ne, same_count, ends.0))),
        (λ l. (ends.1 k d few).1 (omega (arith, same_count))),
      )

  pub put_joined : (h : ℕ → ℕ) (lane lane' : Lane) → lane ≡ get_or lanes place lane
      → worker_view lane' ≡ joint (worker_view lane) (view pass)
      → put_by h (set lanes place lane') ≡ put_by h lanes
  put_joined h lane lane' is knows =
      let f : Lane → ℕ = λ l. weigh h (worker_view l).put in
      let one : put_by h (set lanes place lane') + f (get_or lanes place lane) ≡ put_by h lanes + f lane' = sum_by-set f lanes place lane' lane in_range in
      let was : f lane ≡ f (get_or lanes place lane) = ap f is in
      let none : weigh h (view pass).put ≡ 0 = ap (λ (v : Slip). weigh h v.put) taker.2 in
      let now : f lane' ≡ weigh h ((worker_view lane).put ++ (view pass).put) = ap (λ (v : Slip). weigh h v.put) knows in
      omega (arith, one, was, none, now, weigh_append h (worker_view lane).put (view pass).put)

  pub taken_joined : (h : ℕ → ℕ) (lane lane' : Lane) → lane ≡ get_or lanes place lane
      → worker_view lane' ≡ joint (worker_view lane) (view pass)
      → taken_there h (set lanes place lane') + taken_in h t ≡ taken_there h lanes + taken_in h s
  taken_joined h lane lane' is knows =
      let f : Lane → ℕ = λ l. weigh h (worker_view l).taken in
      let one : taken_there h (set lanes place lane') + f (get_or lanes place lane) ≡ taken_there h lanes + f lane' = sum_by-set f lanes place lane' lane in_range in
      let was : f lane ≡ f (get_or lanes place lane) = ap f is in
      let now : f lane' ≡ weigh h ((worker_view lane).taken ++ (view pass).taken) = ap (λ (v : Slip). weigh h v.taken) knows in
      let row : taken_in h s ≡ taken_in h t + weigh h (view pass).taken = sum_popped (λ (p : Pass ℕ Slip Global). weigh h (taken_by p)) s t pass e in
      omega (arith, one, was, now, row, weigh_append h (worker_view lane).taken (view pass).taken)

-- what contracts see of a hand
abbrev pub hand_of : List (Pass ℕ Slip Global) → ℕ → Slip → Doings
hand_of passes number v = record {
  pool = map deque_of passes;
  number = number;
  pushed = v.put;
  fetched = map taken_by passes;
  known_by_pushes = v.known;
  known_by_fetches = map known_by passes;
}

-- an end that has no hand yet becomes one
module _ (pool : List Deque) (lane : Lane) (passes : List (Pass ℕ Slip Global)) (number : ℕ) (few : length pool < whole)
    (opened : IsOpenWith (whole - length pool) lane) (own : slice_get pool number ≡ Some (worker_deque lane)) (row : IsFreshRow pool passes) where
  len : length passes ≡ length pool
  len = sym (length-map passes deque_of) ∙ ap length row.deques

  pub seated : IsHand number 0 lane passes
  seated =
      let put : (worker_view lane).put ≡ [] = ap (λ (v : Slip). v.put) opened.3 in
      let known : (worker_view lane).known ≡ [] = ap (λ (v : Slip). v.known) opened.3 in
      record {
        own = ap (λ (p : List Deque). slice_get p number) row.deques ∙ own;
        fifo = opened.0;
        room = opened.1;
        index = omega (arith, opened.2);
        count = sym (ap length put);
        few = omega (arith, len);
        first = opened.4;
        knows = opened.3 ∙ (ap (λ (n : ℕ). slip (whole - n) [] [] [] []) (sym len) ∙ (ap (λ (xs : List ℕ). slip (whole - length passes) xs [] [] []) (sym put)
            ∙ ap (λ (log : History). slip (whole - length passes) (worker_view lane).put [] log []) (sym known)));
        takers = row.takers;
      }

  pub is_newcomer : (hand : Doings) → hand ≡ hand_of passes number (worker_view lane) → hand ≡ newcomer pool number
  is_newcomer hand is =
      let put : (worker_view lane).put ≡ [] = ap (λ (v : Slip). v.put) opened.3 in
      let known : (worker_view lane).known ≡ [] = ap (λ (v : Slip). v.known) opened.3 in
      let a = row.deques in
      let b = row.nothing in
      let c = row.unknown in
      is ∙ cc (put, known, a, b, c)

-- one deque more has a pass cut off
module _ (parts place : ℕ) (lanes : List Lane) (split : AreSplit parts place lanes) (lane lane' : Lane) (is : lane ≡ get_or lanes place lane) (within : place < length lanes)
    (same : SameWorker lane lane') (index : worker_index lane' ≡ worker_index lane) (knows : worker_view lane' ≡ lessened (worker_view lane)) where
  pub same_deques : deques (set lanes place lane') ≡ deques lanes
  same_deques = map-set_same (λ (l : Lane). worker_deque l) lanes place lane' lane (same.0 ∙ ap (λ (l : Lane). worker_deque l) is)

  opened : IsOpenWith parts lane
  opened = subst (IsOpenWith parts) (sym is) ((split place lane within).1 (omega arith))

  pub split_more : AreSplit parts (place + 1) (set lanes place lane')
  split_more = all_set P lanes place lane' within here others
    where
      P : ℕ → Lane → Type 0
      P k l = (k < place + 1 → IsOpenWith (parts - 1) l) × (place + 1 ≤ k → IsOpenWith parts l)

      here : P place lane'
      here =
          let view_is : worker_view lane' ≡ slip (parts - 1) [] [] [] [] = knows ∙ ap lessened opened.3 in
          ((λ _. (same.1 ∙ opened.0, omega (arith, same.3, opened.1), index ∙ opened.2, view_is, same.2 ∙ opened.4)), (λ l. absurd (omega arith)))

      others : (k : ℕ) (d : Lane) → k ≢ place → k < length lanes → P k (get_or lanes k d)
      others k d ne few = ((λ l. (split k d few).0 (omega (arith, ne))), (λ l. (split k d few).1 (omega arith)))

-- a row with one pass more
module _ (pool : List Deque) (row more : List (Pass ℕ Slip Global)) (place : ℕ) (pass : Pass ℕ Slip Global) (deque : Deque) (e : more ≡ row ++ pass ∷ [])
    (at : slice_get pool place ≡ Some deque) (of_deque : IsPassOf deque pass) (new : view pass ≡ fresh) where
  nothing : taken_by pass ≡ []
  nothing = ap (λ (v : Slip). v.taken) new

  unknown : known_by pass ≡ []
  unknown = ap (λ (v : Slip). v.known) new

  pub row_more : map deque_of row ≡ take place pool → map deque_of more ≡ take (place + 1) pool
  row_more was =
      let same : deque_of pass ≡ deque = ap (λ (r : ℕ × ℕ). (r, pass.heap)) of_deque.0 ∙ ap (λ (a : Global). (deque.0, a)) of_deque.1 in
      ap (map deque_of) e ∙ (map_push deque_of row pass ∙ (ap (λ (x : Deque). map deque_of row ++ x ∷ []) same ∙ (ap (λ (xs : List Deque). xs ++ deque ∷ []) was ∙ sym (take_more pool place deque at))))

  pub takers_more : AreTakers row → AreTakers more
  takers_more was =
      let is : view pass ≡ slip 1 [] (taken_by pass) (known_by pass) [] =
      new ∙ (ap (λ (xs : List ℕ). slip 1 [] xs [] []) (sym nothing) ∙ ap (λ (log : History). slip 1 [] (taken_by pass) log []) (sym unknown)) in
      all_pushed (λ k p. IsTaker p) more row pass e was (of_deque.2, of_deque.3, is)

  none_more : {B : Type 0} (f : Pass ℕ Slip Global → List B) → f pass ≡ [] → map f row ≡ map (λ (d : Deque). []) (take place pool) → map f more ≡ map (λ (d : Deque). []) (take (place + 1) pool)
  none_more {B} f none was =
      let none_of : List Deque → List (List B) = λ ds. map (λ (d : Deque). []) ds in
      ap (map f) e ∙ (map_push f row pass ∙ (ap (λ (xs : List B). map f row ++ xs ∷ []) none ∙ (ap (λ (xss : List (List B)). xss ++ [] ∷ []) was
      ∙ (sym (map_push (λ (d : Deque). []) (take place pool) deque) ∙ ap none_of (sym (take_more pool place deque at))))))

  pub nothing_more : map taken_by row ≡ map (λ (d : Deque). []) (take place pool) → map taken_by more ≡ map (λ (d : Deque). []) (take (place + 1) pool)
  nothing_more was = none_more taken_by nothing was

  pub unknown_more : map known_by row ≡ map (λ (d : Deque). []) (take place pool) → map known_by more ≡ map (λ (d : Deque). []) (take (place + 1) pool)
  unknown_more was = none_more known_by unknown was

-- the deque with a number
pub deque_there : (lanes : List Lane) (place : ℕ) (lane : Lane) → lane ≡ get_or lanes place lane → place < length lanes → slice_get (deques lanes) place ≡ Some (worker_deque lane)
deque_there lanes place lane is within =
    slice_get-map (λ (l : Lane). worker_deque l) lanes place ∙ (ap (option_map (λ (l : Lane). worker_deque l)) (slice_get-get_or lanes place lane within) ∙ ap (λ (l : Lane). Some (worker_deque l)) (sym is))

-- equal lists are equal doings
abbrev doings : ℕ → Slip → List Deque → List (List ℕ) → List History → Doings
doings number v pool fetched known = record { pool = pool; number = number; pushed = v.put; fetched = fetched; known_by_pushes = v.known; known_by_fetches = known }

doings_same : (number : ℕ) (v : Slip) {p q : List Deque} {a b : List (List ℕ)} {x y : List History} → p ≡ q → a ≡ b → x ≡ y → doings number v p a x ≡ doings number v q b y
doings_same number v {q = q} {a} {b} {x} e f g =
    ap (λ (r : List Deque). doings number v r a x) e ∙ (ap (λ (r : List (List ℕ)). doings number v q r x) f ∙ ap (λ (r : List History). doings number v q b r) g)

-- a number is fetched by a hand, or none
module _ (passes : List (Pass ℕ Slip Global)) (mouths : List (Stealer ℕ Global Slip Fair)) (place : ℕ) (pass pass' : Pass ℕ Slip Global) (mouth : Stealer ℕ Global Slip Fair)
    (is_pass : pass ≡ get_or passes place pass) (is_mouth : mouth ≡ get_or mouths place mouth) (pools : map deque_of passes ≡ map stealer_deque mouths) (within : place < length mouths) (takers : AreTakers passes) where
  within_passes : place < length passes
  within_passes = omega (arith, within, length-map passes deque_of, length-map mouths stealer_deque, ap length pools)

  is_taker : IsTaker pass
  is_taker = subst IsTaker (sym is_pass) (takers place pass within_passes)

  pub fetches_there : IsPassOf (stealer_deque mouth) pass
  fetches_there =
      let same : deque_of pass ≡ stealer_deque mouth = ap deque_of is_pass ∙ (same_at deque_of stealer_deque passes mouths place pass mouth pools within ∙ ap stealer_deque (sym is_mouth)) in
      (ap (λ (x : Deque). x.0) same, ap (λ (x : Deque). x.1) same, is_taker.0, is_taker.1)

  abbrev Fetches : Option ℕ → Type 0
  Fetches r = MatchOption r (view pass' ≡ view pass) (λ x. HasTaken (view pass) (x ∷ []) (view pass'))

  view_after : (r : Option ℕ) → Fetches r → view pass' ≡ slip 1 [] (taken_by pass') (known_by pass') []
  view_after None f = f ∙ (is_taker.2 ∙ ap (λ (v : Slip). slip 1 [] v.taken v.known []) (sym f))
  view_after (Some x) f =
      let log : History = f.0 ++ Taken ∷ [] in
      let now : view pass' ≡ slip 1 [] (taken_by pass ++ x ∷ []) log [] = f.3 ∙ ap (λ (v : Slip). slip v.parts v.put ((view pass).taken ++ x ∷ []) log v.joined) is_taker.2 in
      now ∙ ap (λ (v : Slip). slip 1 [] v.taken v.known []) (sym now)

  pools_after : SamePass pass pass' → map deque_of (set passes place pass') ≡ map deque_of passes
  pools_after same =
      let deque : deque_of pass' ≡ deque_of pass = ap (λ (r : ℕ × ℕ). (r, pass'.heap)) same.0 ∙ ap (λ (a : Global). (pass.rows, a)) same.1 in
      map-set_same deque_of passes place pass' pass (deque ∙ ap deque_of is_pass)

  pub hand_after : {number pushes : ℕ} {lane : Lane} (r : Option ℕ) → Fetches r → SamePass pass pass' → IsHand number pushes lane passes → IsHand number pushes lane (set passes place pass')
  hand_after {number} {pushes} {lane} r f same h =
      let len : length (set passes place pass') ≡ length passes = length-set passes place pass' in
      record {
        own = ap (λ (p : List Deque). slice_get p number) (pools_after same) ∙ h.own;
        fifo = h.fifo;
        room = h.room;
        index = h.index;
        count = h.count;
        few = omega (arith, len, h.few);
        first = h.first;
        knows = h.knows ∙ ap (λ (n : ℕ). slip (whole - n) (worker_view lane).put [] (worker_view lane).known []) (sym len);
        takers = all_set (λ k p. IsTaker p) passes place pass' within_passes (same.3, same.4, view_after r f) (λ k d ne few. takers k d few);
      }

  was_there : get_or (map taken_by passes) place [] ≡ taken_by pass
  was_there = get_or-map taken_by passes place pass [] within_passes ∙ ap taken_by (sym is_pass)

  was_known : get_or (map known_by passes) place [] ≡ known_by pass
  was_known = get_or-map known_by passes place pass [] within_passes ∙ ap known_by (sym is_pass)

  pub fetched_none : (number : ℕ) (v : Slip) (hand : Doings) → SamePass pass pass' → hand_of passes number v ≡ hand → view pass' ≡ view pass → hand_of (set passes place pass') number v ≡ hand
  fetched_none number v hand same is f =
      let taken : taken_by pass' ≡ taken_by pass = ap (λ (v : Slip). v.taken) f in
      let known : known_by pass' ≡ known_by pass = ap (λ (v : Slip). v.known) f in
      let all : map taken_by (set passes place pass') ≡ map taken_by passes = map-set_same taken_by passes place pass' pass (taken ∙ ap taken_by is_pass) in
      let seen : map known_by (set passes place pass') ≡ map known_by passes = map-set_same known_by passes place pass' pass (known ∙ ap known_by is_pass) in
      doings_same number v (pools_after same) all seen ∙ is

  pub fetched_some : (number : ℕ) (v : Slip) (hand : Doings) → SamePass pass pass' → hand_of passes number v ≡ hand
      → (x : ℕ) → HasTaken (view pass) (x ∷ []) (view pass') → HasFetched hand place x (hand_of (set passes place pass') number v)
  fetched_some number v hand same is x f =
      let log : History = f.0 in
      let taken : taken_by pass' ≡ taken_by pass ++ x ∷ [] = ap (λ (v : Slip). v.taken) f.3 in
      let known : known_by pass' ≡ log ++ Taken ∷ [] = ap (λ (v : Slip). v.known) f.3 in
      let all : map taken_by (set passes place pass') ≡ set (map taken_by passes) place (get_or (map taken_by passes) place [] ++ x ∷ []) =
      map-set taken_by passes place pass' ∙ ap (λ (xs : List ℕ). set (map taken_by passes) place xs) (taken ∙ ap (λ (xs : List ℕ). xs ++ x ∷ []) (sym was_there)) in
      let seen : map known_by (set passes place pass') ≡ set (map known_by passes) place (log ++ Taken ∷ []) =
      map-set known_by passes place pass' ∙ ap (λ (l : History). set (map known_by passes) place l) known in
      let was : IsPrefix (get_or (map known_by passes) place []) log = subst (λ (l : History). IsPrefix l log) (sym was_known) f.1 in
      let before : HasFetched (hand_of passes number v) place x (hand_of (set passes place pass') number v) = (log, was, f.2, doings_same number v (pools_after same) all seen) in
      subst (λ (d : Doings). HasFetched d place x (hand_of (set passes place pass') number v)) is before

-- a number is pushed by a hand, or there is no place
module _ (number pushes pushes' id : ℕ) (lane lane' : Lane) (passes : List (Pass ℕ Slip Global)) (same : SameWorker lane lane') (index : worker_index lane' ≤ pushes') (h : IsHand number pushes lane passes) where
  pushed_some : HasPut (worker_view lane) (id ∷ []) (worker_view lane') → pushes' ≡ pushes + 1 → IsHand number pushes' lane' passes
  pushed_some f count =
      let xs : List ℕ = (worker_view lane).put ++ id ∷ [] in
      let log : History = f.0 ++ Pushed id ∷ [] in
      let now : worker_view lane' ≡ slip (whole - length passes) xs [] log [] = f.3 ∙ ap (λ (v : Slip). slip v.parts xs v.taken log v.joined) h.knows in
      record {
        own = h.own ∙ ap (λ (d : Deque). Some d) (sym same.0);
        fifo = same.1 ∙ h.fifo;
        room = omega (arith, h.room, same.3);
        index = index;
        count = omega (arith, count, h.count, ap (λ (v : Slip). length v.put) f.3, length-append (worker_view lane).put (id ∷ []));
        few = h.few;
        first = same.2 ∙ h.first;
        knows = now ∙ ap (λ (v : Slip). slip (whole - length passes) v.put [] v.known []) (sym now);
        takers = h.takers;
      }

  pushed_none : worker_view lane' ≡ worker_view lane → pushes' ≡ pushes → IsHand number pushes' lane' passes
  pushed_none e count = record {
    own = h.own ∙ ap (λ (d : Deque). Some d) (sym same.0);
    fifo = same.1 ∙ h.fifo;
    room = omega (arith, h.room, same.3);
    index = index;
    count = omega (arith, count, h.count, ap (λ (v : Slip). length v.put) e);
    few = h.few;
    first = same.2 ∙ h.first;
    knows = e ∙ (h.knows ∙ ap (λ (v : Slip). slip (whole - length passes) v.put [] v.known []) (sym e));
    takers = h.takers;
  }

  pub hand_pushed : {A : Type 0} (r : Result A Full) → OnOk r ((pushes < 65536) × (pushes' ≡ pushes + 1)) → OnOk r (HasPut (worker_view lane) (id ∷ []) (worker_view lane'))
      → IfErr r (λ f. (65536 ≤ pushes) × (f.id ≡ id) × (pushes' ≡ pushes) × (worker_view lane' ≡ worker_view lane)) → IsHand number pushes' lane' passes
  hand_pushed (Ok x) count put full = pushed_some put count.1
  hand_pushed (Err f) count put full = pushed_none full.3 full.2

pub pushed_told : {A E : Type 0} (number id : ℕ) (v w : Slip) (passes : List (Pass ℕ Slip Global)) (hand : Doings) (r : Result A E) → OnOk r (HasPut v (id ∷ []) w) → hand_of passes number v ≡ hand → OnOk r (HasPushed hand id (hand_of passes number w))
pushed_told number id v w passes hand (Ok x) f is =
    let before : HasPushed (hand_of passes number v) id (hand_of passes number w) = (f.0, f.1, sym f.2, ap (hand_of passes number) f.3) in
    subst (λ (d : Doings). HasPushed d id (hand_of passes number w)) is before
pushed_told number id v w passes hand (Err e) f is = tt
