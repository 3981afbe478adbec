-- Each step keeps the rule.
use Rattle.std.proofs.Common.{arith, ◌≡◌, ◌≢◌, ℕ, zero, suc, ◌<◌, ◌+◌, All, List, [], ◌∷◌, ◌++◌, length, set, sym, refl, ap, ◌∙◌, ⊎_elim, subst, append-nil}
use Rattle.std.proofs.lemmas.List.Elements.{All-nil, All-append, All-cons}
use mathlib.Core.Option.{some, some-ne-none}
use mathlib.Core.List.{IsPrefix}
use lib.ListN.{get_elem?}
use Rattle.crossbeam_deque.specs.Tasks.{Pushes, Takes, Finds, Forks, Merges, Learns}
use Rattle.crossbeam_deque.proofs.Lists.{at_set, at_snoc}
use Rattle.cube_pool.specs.declared.slip.Event.TheVariants.{Pushed, Taken}
use Rattle.cube_pool.specs.declared.slip.Slip.{Slip}
use Rattle.cube_pool.specs.Lanes.{History, pushed_in, fresh, joint, lessened, slip, whole, weigh, total, Begins, HasHistory, HasOneHistory, HasPut, HasTaken, IdleIsEmpty, Balanced, IsSettled}
use Rattle.cube_pool.proofs.Histories.{prefix_self, begins_more, left_after, left_pushed, legal_none, legal_pushed, legal_taken, oldest_first, pushed_append, pushed_same}

pub weigh_append : (h : ℕ → ℕ) (xs ys : List ℕ) → weigh h (xs ++ ys) ≡ weigh h xs + weigh h ys
weigh_append h [] ys = omega arith
weigh_append h (x ∷ xs) ys = omega (arith, weigh_append h xs ys)

-- the total after a change of one pass
total_set : (f : Slip → ℕ) (views : List Slip) (port : ℕ) (v w : Slip) → get_elem? views port ≡ some v → total f (set views port w) + f v ≡ total f views + f w
total_set f [] port v w e = absurd (some-ne-none v (sym e))
total_set f (u ∷ views) zero v w e = let s : u ≡ v = cc in ap (λ (x : Slip). (f w + total f views) + f x) (sym s) ∙ omega arith
total_set f (u ∷ views) (suc port) v w e = omega (arith, total_set f views port v w e)

idle_set : (views : List Slip) (port : ℕ) (w : Slip) → 0 < w.parts → IdleIsEmpty views → IdleIsEmpty (set views port w)
idle_set views port w some_part idle j u e none = ⊎_elim
    (λ (x : (j ≡ port) × (w ≡ u)). absurd (let p : w.parts ≡ u.parts = ap (λ (y : Slip). y.parts) x.1 in omega arith))
    (λ (x : (j ≢ port) × (get_elem? views j ≡ some u)). idle j u x.1 none)
    (at_set views port j w u e)

-- the history after a change of one pass: it is as before, or longer
module _ (items : List ℕ) (views : List Slip) (port : ℕ) (v w : Slip) (at : get_elem? views port ≡ some v) (r : HasHistory items views) where
  fronts_set : (log : History) → IsPrefix r.log log → Begins log w → (j : ℕ) (u : Slip) → get_elem? (set views port w) j ≡ some u → Begins log u
  fronts_set log goes_on mine j u e = ⊎_elim
      (λ (x : (j ≡ port) × (w ≡ u)). subst (Begins log) x.1 mine)
      (λ (x : (j ≢ port) × (get_elem? views j ≡ some u)). begins_more r.log log u goes_on (r.fronts j u x.1))
      (at_set views port j w u e)

  first_set : (log : History) → pushed_in log ≡ pushed_in r.log → w.put ≡ v.put → (u : Slip) → get_elem? (set views port w) 0 ≡ some u → u.put ≡ pushed_in log
  first_set log same put u e = ⊎_elim
      (λ (x : (0 ≡ port) × (w ≡ u)). ap (λ (y : Slip). y.put) (sym x.1) ∙ (put ∙ (r.first v (ap (λ (n : ℕ). get_elem? views n) x.0 ∙ at) ∙ sym same)))
      (λ (x : (0 ≢ port) × (get_elem? views 0 ≡ some u)). r.first u x.1 ∙ sym same)
      (at_set views port 0 w u e)

pub puts : (port : ℕ) (v : Slip) (x : ℕ) → port ≡ 0 → 0 < v.parts → Pushes Balanced port v (x ∷ []) (HasPut v (x ∷ []))
puts port v x first some_part items views b at =
    let r : HasHistory items views = b.3 in
    let xs : List ℕ = x ∷ [] in
    let log : History = r.log ++ Pushed x ∷ [] in
    let w : Slip = slip v.parts (v.put ++ xs) v.taken log v.joined in
    let at_first : get_elem? views 0 ≡ some v = ap (λ (n : ℕ). get_elem? views n) (sym first) ∙ at in
    let goes_on : IsPrefix r.log log = (Pushed x ∷ [], refl) in
    let now : v.put ++ xs ≡ pushed_in log = ap (λ (l : List ℕ). l ++ xs) (r.first v at_first) ∙ sym (pushed_append r.log (Pushed x ∷ [])) in (
      w,
      (
        (let s = total_set (λ (u : Slip). u.parts) views port v w at in let p = b.0 in omega arith),
        (λ h. (let s = total_set (λ (u : Slip). weigh h u.put) views port v w at in
            let t = total_set (λ (u : Slip). weigh h u.taken) views port v w at in
            let p = b.1 h in
            omega (arith, weigh_append h v.put xs, weigh_append h items xs))),
        idle_set views port w some_part b.2,
        record {
          log = log;
          legal = legal_pushed r.log x r.legal;
          left = ap (λ (l : List ℕ). l ++ xs) r.left ∙ sym (left_pushed r.log x r.legal);
          fronts = fronts_set items views port v w at r log goes_on (prefix_self log, (begins_more r.log log v goes_on (r.fronts port v at)).1);
          first = λ u e. ⊎_elim
              (λ (y : (0 ≡ port) × (w ≡ u)). ap (λ (z : Slip). z.put) (sym y.1) ∙ now)
              (λ (y : (0 ≢ port) × (get_elem? views 0 ≡ some u)). absurd (y.0 (sym first)))
              (at_set views port 0 w u e);
        },
      ),
      (r.log, (r.fronts port v at).0, r.first v at_first, refl),
    )

takes_one : (port : ℕ) (v : Slip) (x : ℕ) → 0 < v.parts → (items : List ℕ) (views : List Slip) → Balanced (x ∷ items) views → get_elem? views port ≡ some v
    → (w : Slip) × Balanced items (set views port w) × HasTaken v (x ∷ []) w
takes_one port v x some_part items views b at =
    let r : HasHistory (x ∷ items) views = b.3 in
    let xs : List ℕ = x ∷ [] in
    let log : History = r.log ++ Taken ∷ [] in
    let w : Slip = slip v.parts v.put (v.taken ++ xs) log v.joined in
    let goes_on : IsPrefix r.log log = (Taken ∷ [], refl) in (
      w,
      (
        (let s = total_set (λ (u : Slip). u.parts) views port v w at in let p = b.0 in omega arith),
        (λ h. (let s = total_set (λ (u : Slip). weigh h u.put) views port v w at in
            let t = total_set (λ (u : Slip). weigh h u.taken) views port v w at in
            let p = b.1 h in
            omega (arith, weigh_append h v.taken xs, weigh_append h xs items))),
        idle_set views port w some_part b.2,
        record {
          log = log;
          legal = legal_taken r.log x items r.left r.legal;
          left = left_after r.log x items r.left;
          fronts = fronts_set (x ∷ items) views port v w at r log goes_on (prefix_self log, (begins_more r.log log v goes_on (r.fronts port v at)).1);
          first = first_set (x ∷ items) views port v w at r log (pushed_same r.log x items r.left) refl;
        },
      ),
      (r.log, (r.fronts port v at).0, oldest_first r.log x items r.left, refl),
    )

pub takes : (port : ℕ) (v : Slip) → 0 < v.parts → Takes Balanced port v 1 (HasTaken v)
takes port v some_part [] items views some_item few b at = absurd (omega arith)
takes port v some_part (x ∷ []) items views some_item few b at = takes_one port v x some_part items views b at
takes port v some_part (x ∷ y ∷ xs) items views some_item few b at = absurd (omega arith)

none_known : (log : History) → All (λ (front : History). IsPrefix front log) []
none_known log = All-nil (λ (front : History). IsPrefix front log)

pub begins : Balanced [] (slip whole [] [] [] [] ∷ [])
begins = (refl, (λ h. refl), idle_one, record { log = []; legal = legal_none; left = refl; fronts = fronts_one; first = first_one })
  where
    idle_one : IdleIsEmpty (slip whole [] [] [] [] ∷ [])
    idle_one zero v e none = let s : slip whole [] [] [] [] ≡ v = cc in (sym (ap (λ (y : Slip). y.put) s), sym (ap (λ (y : Slip). y.taken) s))
    idle_one (suc j) v e none = absurd (some-ne-none v (sym e))

    fronts_one : (j : ℕ) (v : Slip) → get_elem? (slip whole [] [] [] [] ∷ []) j ≡ some v → Begins [] v
    fronts_one zero v e = let s : slip whole [] [] [] [] ≡ v = cc in subst (Begins []) s (([], refl), none_known [])
    fronts_one (suc j) v e = absurd (some-ne-none v (sym e))

    first_one : (v : Slip) → get_elem? (slip whole [] [] [] [] ∷ []) 0 ≡ some v → v.put ≡ []
    first_one v e = let s : slip whole [] [] [] [] ≡ v = cc in sym (ap (λ (y : Slip). y.put) s)

total_append : (f : Slip → ℕ) (views : List Slip) (w : Slip) → total f (views ++ w ∷ []) ≡ total f views + f w
total_append f [] w = omega arith
total_append f (v ∷ views) w = omega (arith, total_append f views w)

-- the first pass stays the first where a pass comes behind it
first_stays : (views : List Slip) (port : ℕ) (v w u : Slip) → get_elem? views port ≡ some v → get_elem? (views ++ w ∷ []) 0 ≡ some u → get_elem? views 0 ≡ some u
first_stays [] port v w u at e = absurd (some-ne-none v (sym at))
first_stays (x ∷ views) port v w u at e = e

set_there : (views : List Slip) (port : ℕ) (v w : Slip) → get_elem? views port ≡ some v → get_elem? (set views port w) port ≡ some w
set_there [] port v w at = absurd (some-ne-none v (sym at))
set_there (x ∷ views) zero v w at = refl
set_there (x ∷ views) (suc port) v w at = set_there views port v w at

pub forks : (port : ℕ) (v : Slip) → 1 < v.parts → Forks Balanced port v (lessened v) fresh
forks port v parts items views b at =
    let r : HasHistory items views = b.3 in
    let l : Slip = lessened v in
    let vs : List Slip = set views port l in (
      (let s = total_set (λ (u : Slip). u.parts) views port v l at in let p = b.0 in omega (arith, total_append (λ (u : Slip). u.parts) vs fresh)),
      (λ h. (let s = total_set (λ (u : Slip). weigh h u.put) views port v l at in
          let t = total_set (λ (u : Slip). weigh h u.taken) views port v l at in
          let p = b.1 h in
          omega (arith, total_append (λ (u : Slip). weigh h u.put) vs fresh, total_append (λ (u : Slip). weigh h u.taken) vs fresh))),
      (λ j u e none. ⊎_elim (λ x. idle_set views port l (omega arith) b.2 j u x none) (λ (is : fresh ≡ u). absurd (let p : 1 ≡ u.parts = ap (λ (y : Slip). y.parts) is in omega arith)) (at_snoc vs fresh u j e)),
      record {
        log = r.log;
        legal = r.legal;
        left = r.left;
        fronts = λ j u e. ⊎_elim
            (λ (x : get_elem? vs j ≡ some u). fronts_set items views port v l at r r.log (prefix_self r.log) (r.fronts port v at) j u x)
            (λ (is : fresh ≡ u). subst (Begins r.log) is ((r.log, refl), none_known r.log))
            (at_snoc vs fresh u j e);
        first = λ u e. first_set items views port v l at r r.log refl refl u (first_stays vs port l fresh u (set_there views port v l at) e);
      },
    )

pub merges : (port : ℕ) (v : Slip) (other : ℕ) (w : Slip) → port ≡ 0 → w.put ≡ [] → 0 < v.parts → Merges Balanced port v other w (joint v w) (slip 0 [] [] [] [])
merges port v other w is_first none_put parts items views b at two at' =
    let r : HasHistory items views = b.3 in
    let both : Slip = joint v w in
    let none_ : Slip = slip 0 [] [] [] [] in
    let vs : List Slip = set views port both in
    let was : IdleIsEmpty vs = idle_set views port both (omega arith) b.2 in
    let at_other : get_elem? views other ≡ some w = ⊎_elim
    (λ (x : (other ≡ port) × (both ≡ w)). absurd (two x.0))
    (λ (x : (other ≢ port) × (get_elem? views other ≡ some w)). x.1)
    (at_set views port other both w at') in
    let mine = r.fronts port v at in
    let its = r.fronts other w at_other in
    let all : Begins r.log both = (mine.0, All-append (IsFront r.log) v.joined (w.known ∷ w.joined) mine.1 (All-cons (IsFront r.log) w.known w.joined its.0 its.1)) in
    let fronts : (j : ℕ) (u : Slip) → get_elem? vs j ≡ some u → Begins r.log u = fronts_set items views port v both at r r.log (prefix_self r.log) all in
    let first : (u : Slip) → get_elem? vs 0 ≡ some u → u.put ≡ pushed_in r.log =
    first_set items views port v both at r r.log refl (ap (λ (l : List ℕ). v.put ++ l) none_put ∙ append-nil v.put) in (
      (let s = total_set (λ (u : Slip). u.parts) views port v both at in let t = total_set (λ (u : Slip). u.parts) vs other w none_ at' in let p = b.0 in omega arith),
      (λ h. (let s = total_set (λ (u : Slip). weigh h u.put) views port v both at in
          let s' = total_set (λ (u : Slip). weigh h u.put) vs other w none_ at' in
          let t = total_set (λ (u : Slip). weigh h u.taken) views port v both at in
          let t' = total_set (λ (u : Slip). weigh h u.taken) vs other w none_ at' in
          let p = b.1 h in
          omega (arith, weigh_append h v.put w.put, weigh_append h v.taken w.taken))),
      (λ j u e none. ⊎_elim
          (λ (x : (j ≡ other) × (none_ ≡ u)). (sym (ap (λ (y : Slip). y.put) x.1), sym (ap (λ (y : Slip). y.taken) x.1)))
          (λ (x : (j ≢ other) × (get_elem? vs j ≡ some u)). was j u x.1 none)
          (at_set vs other j none_ u e)),
      record {
        log = r.log;
        legal = r.legal;
        left = r.left;
        fronts = λ j u e. ⊎_elim
            (λ (x : (j ≡ other) × (none_ ≡ u)). subst (Begins r.log) x.1 ((r.log, refl), none_known r.log))
            (λ (x : (j ≢ other) × (get_elem? vs j ≡ some u)). fronts j u x.1)
            (at_set vs other j none_ u e);
        first = λ u e. ⊎_elim
            (λ (x : (0 ≡ other) × (none_ ≡ u)). absurd (two (sym x.0 ∙ sym is_first)))
            (λ (x : (0 ≢ other) × (get_elem? vs 0 ≡ some u)). first u x.1)
            (at_set vs other 0 none_ u e);
      },
    )
  where
    IsFront : History → History → Type 0
    IsFront log front = IsPrefix front log

idle_rest : (v : Slip) (views : List Slip) → IdleIsEmpty (v ∷ views) → IdleIsEmpty views
idle_rest v views h port u e none = h (suc port) u e none

-- passes without a part weigh nothing
none_total : (f : Slip → ℕ) → ((u : Slip) → u.put ≡ [] → u.taken ≡ [] → f u ≡ 0) → (views : List Slip) → IdleIsEmpty views → total (λ v. v.parts) views ≡ 0 → total f views ≡ 0
none_total f zeros [] idle none = refl
none_total f zeros (v ∷ views) idle none =
    let here = idle 0 v refl (omega arith) in
    omega (arith, zeros v here.0 here.1, none_total f zeros views (idle_rest v views idle) (omega arith))

one_total : (f : Slip → ℕ) → ((u : Slip) → u.put ≡ [] → u.taken ≡ [] → f u ≡ 0) → (views : List Slip) (port : ℕ) (v : Slip) → IdleIsEmpty views → get_elem? views port ≡ some v → total (λ u. u.parts) views ≡ v.parts → total f views ≡ f v
one_total f zeros [] port v idle at all = absurd (some-ne-none v (sym at))
one_total f zeros (u ∷ views) zero v idle at all =
    let same : u ≡ v = cc in
    let p : u.parts ≡ v.parts = ap (λ (y : Slip). y.parts) same in
    let g : f u ≡ f v = ap f same in
    omega (arith, none_total f zeros views (idle_rest u views idle) (omega arith))
one_total f zeros (u ∷ views) (suc port) v idle at all =
    let more = most views port v at in
    let here = idle 0 u refl (omega arith) in
    omega (arith, zeros u here.0 here.1, one_total f zeros views port v (idle_rest u views idle) at (omega arith))
  where
    most : (views : List Slip) (port : ℕ) (v : Slip) → get_elem? views port ≡ some v → v.parts < total (λ u. u.parts) views + 1
    most [] port v e = absurd (some-ne-none v (sym e))
    most (u ∷ views) zero v e = let same : u ≡ v = cc in let p : u.parts ≡ v.parts = ap (λ (y : Slip). y.parts) same in omega arith
    most (u ∷ views) (suc port) v e = let m = most views port v e in omega arith

settles : (port : ℕ) (v : Slip) → v.parts ≡ whole → Learns Balanced port v (λ items. IsSettled v.put v.taken items)
settles port v all items views b at h =
    let p = b.1 h in
    let whole = b.0 in
    let put = one_total (λ (u : Slip). weigh h u.put) (λ u e f. ap (weigh h) e) views port v b.2 at (omega arith) in
    let took = one_total (λ (u : Slip). weigh h u.taken) (λ u e f. ap (weigh h) f) views port v b.2 at (omega arith) in
    omega arith

pub learns : (port : ℕ) (v : Slip) → port ≡ 0 → v.parts ≡ whole → Learns Balanced port v (λ items. IsSettled v.put v.taken items × HasOneHistory v)
learns port v is_first all items views b at =
    let r : HasHistory items views = b.3 in
    let settled : IsSettled v.put v.taken items = settles port v all items views b at in (
      settled,
      record {
        log = r.log;
        legal = r.legal;
        begins = r.fronts port v at;
        pushed = r.first v (ap (λ (n : ℕ). get_elem? views n) (sym is_first) ∙ at);
        settled = subst (IsSettled v.put v.taken) r.left settled;
      },
    )

pub ends : (port : ℕ) (v : Slip) → v.parts ≡ whole → Finds Balanced port v (IsSettled v.put v.taken [])
ends port v all views b at = settles port v all [] views b at

weigh_ones : (xs : List ℕ) → weigh (λ x. 1) xs ≡ length xs
weigh_ones [] = refl
weigh_ones (x ∷ xs) = omega (arith, weigh_ones xs)

-- at a moment at which nothing was there
pub settled_now : (v : Slip) (put taken left : List ℕ) → v.put ≡ put → v.taken ≡ taken ++ left → IsSettled v.put v.taken [] → IsSettled put taken left
settled_now v put taken left e f s h =
    let a : weigh h v.put ≡ weigh h put = ap (weigh h) e in
    let b : weigh h v.taken ≡ weigh h (taken ++ left) = ap (weigh h) f in
    omega (arith, s h, weigh_append h taken left)

-- after as many as there were
pub settled_all : (v : Slip) (put taken left first last : List ℕ) → v.put ≡ put → v.taken ≡ taken ++ left → IsSettled put taken first → length left ≡ length first → IsSettled v.put v.taken last → IsSettled put taken left
settled_all v put taken left first last e f s count t h =
    let ones : ℕ → ℕ = λ (x : ℕ). 1 in
    let a : (g : ℕ → ℕ) → weigh g v.put ≡ weigh g put = λ g. ap (weigh g) e in
    let b : (g : ℕ → ℕ) → weigh g v.taken ≡ weigh g (taken ++ left) = λ g. ap (weigh g) f in
    let none : length last ≡ 0 = omega (arith, s (λ x. 1), t (λ x. 1), a (λ x. 1), b (λ x. 1), weigh_append (λ x. 1) taken left, weigh_ones first, weigh_ones last, weigh_ones left) in
    omega (arith, t h, a h, b h, weigh_append h taken left, weigh_none h last none)
  where
    weigh_none : (h : ℕ → ℕ) (xs : List ℕ) → length xs ≡ 0 → weigh h xs ≡ 0
    weigh_none h [] e = refl
    weigh_none h (x ∷ xs) e = absurd (omega arith)
