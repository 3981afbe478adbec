-- One lowering keeps what is known.
use Rattle.std.proofs.Common.{arith, refl, ap, sym, subst, ◌∙◌, inl, inr, ◌⊎◌, ◌≡◌, ◌≢◌, ℕ, zero, suc, ◌<◌, ◌≤◌, ◌+◌, ◌-◌, List, [], ◌∷◌, ◌++◌, length, take, set, sum_by, All, Contains, IsPermutation, ℤ, pos, negsuc, neg_ℤ, ◌+ℤ◌, ◌≤ℤ◌, ◌<ℤ◌}
use Rattle.std.proofs.lemmas.Int.{ints, by_lt_z}
use Rattle.std.proofs.lemmas.Bool.{cases_eq, cases_lt}
use Rattle.std.proofs.lemmas.List.{get_or_append_left, get_or_push, get_or-set_same, get_or-set_other, length_push, length-set, take-append-le}
use Rattle.std.proofs.lemmas.List.Sorted.{Contains-permutation, IsPermutation-sym, length_permutation}
use Rattle.std.proofs.lemmas.List.Elements.{Contains-get_or}
use Rattle.std.proofs.lemmas.List.Sums.{sum_by-set}
use Rattle.stn_core.specs.declared.literal.Literal.{Literal}
use Rattle.stn_core.specs.Limits.{bound_limit, value_span, FitsValue}
use Rattle.stn_core.specs.Literal.{value_at, Holds, IsOver, literal_at}
use Rattle.inc_paths.specs.declared.labels.Lowering.{Lowering}
use Rattle.inc_paths.specs.code.Trails.{Labelled, no_lowering, entry_at, lowering, first_of, point_of, level_of, IsTraced}
use Rattle.inc_paths.specs.code.Trails.{first_in, older_in}
use Rattle.inc_paths.specs.code.Work.{gap_of, IsStart, IsKept, IsBetween, IsLowering, IsWaiting, IsScanning, IsAt, height, room}
use Rattle.inc_paths.proofs.Undoing.{first_of-more}

-- a list's first item and the others
pub contains_cases : (items : List (ℕ × ℕ)) (x y : ℕ × ℕ) → Contains (x ∷ items) y → (x ≡ y) ⊎ Contains items y
contains_cases items x y (zero, lt, e) = inl e
contains_cases items x y (suc k, lt, e) = inr (k, omega arith, e)

pub contains_rest : (items : List (ℕ × ℕ)) (x y : ℕ × ℕ) → Contains items y → Contains (x ∷ items) y
contains_rest items x y (k, lt, e) = (suc k, omega arith, e)

pub contains_first : (items : List (ℕ × ℕ)) (x : ℕ × ℕ) → Contains (x ∷ items) x
contains_first items x = (zero, omega arith, refl)

-- numbers that are parts of values
abbrev low_side : ℤ
low_side = neg_ℤ (pos value_span)

height_falls : (a b : ℤ) → low_side ≤ℤ a → a <ℤ b → height a < height b
height_falls (pos m) (pos n) low lt = omega (arith, ints)
height_falls (pos m) (negsuc n) low lt = absurd (omega (arith, ints))
height_falls (negsuc m) (pos n) low lt = omega (arith, ints)
height_falls (negsuc m) (negsuc n) low lt = omega (arith, ints)

module _ (labels next : Labelled) (l : Literal) (parent fall : ℕ)
    (x_in : l.x < length labels.values)
    (v : next.values ≡ set labels.values l.x (value_at labels.values l.y +ℤ l.c))
    (t : next.trail ≡ labels.trail ++ lowering labels.values l parent ∷ [])
    (s : next.start ≡ labels.start)
    (q : IsPermutation ((fall, length labels.trail) ∷ labels.queue) next.queue) where
  pub at_x : value_at next.values l.x ≡ value_at labels.values l.y +ℤ l.c
  at_x = ap (λ (vs : List ℤ). value_at vs l.x) v ∙ get_or-set_same labels.values l.x (value_at labels.values l.y +ℤ l.c) (pos 0) x_in

  pub at_other : (p : ℕ) → p ≢ l.x → value_at next.values p ≡ value_at labels.values p
  at_other p ne = ap (λ (vs : List ℤ). value_at vs p) v ∙ get_or-set_other labels.values l.x p (value_at labels.values l.y +ℤ l.c) (pos 0) ne

  pub longer : length next.trail ≡ length labels.trail + 1
  longer = ap (length {A = Lowering}) t ∙ length_push labels.trail (lowering labels.values l parent)

  pub entry_old : (k : ℕ) → k < length labels.trail → entry_at next.trail k ≡ entry_at labels.trail k
  entry_old k lt = ap (λ (es : List Lowering). entry_at es k) t ∙ get_or_append_left labels.trail (lowering labels.values l parent ∷ []) no_lowering k lt

  pub entry_new : entry_at next.trail (length labels.trail) ≡ lowering labels.values l parent
  entry_new = ap (λ (es : List Lowering). entry_at es (length labels.trail)) t ∙ get_or_push labels.trail (lowering labels.values l parent) no_lowering (length labels.trail) refl

  queue_old : (x : ℕ × ℕ) → Contains labels.queue x → Contains next.queue x
  queue_old x h = Contains-permutation ((fall, length labels.trail) ∷ labels.queue) next.queue x q (contains_rest labels.queue (fall, length labels.trail) x h)

  queue_new : Contains next.queue (fall, length labels.trail)
  queue_new = Contains-permutation ((fall, length labels.trail) ∷ labels.queue) next.queue (fall, length labels.trail) q (contains_first labels.queue (fall, length labels.trail))

  queue_cases : (x : ℕ × ℕ) → Contains next.queue x → ((fall, length labels.trail) ≡ x) ⊎ Contains labels.queue x
  queue_cases x h = contains_cases labels.queue (fall, length labels.trail) x (Contains-permutation next.queue ((fall, length labels.trail) ∷ labels.queue) x (IsPermutation-sym ((fall, length labels.trail) ∷ labels.queue) next.queue q) h)

  -- what is undone
  pub same_first : labels.start ≤ length labels.trail → first_in next ≡ first_in labels
  same_first within =
      ap (λ (k : ℕ). first_of k next.trail next.values) s
      ∙ ap (λ (es : List Lowering). first_of labels.start es next.values) t
      ∙ ap (first_of labels.start (labels.trail ++ lowering labels.values l parent ∷ [])) v
      ∙ first_of-more labels.start labels.trail labels.values (lowering labels.values l parent) (value_at labels.values l.y +ℤ l.c) within refl

  pub same_older : labels.start ≤ length labels.trail → take labels.start next.trail ≡ take labels.start labels.trail
  same_older within = ap (take labels.start) t ∙ take-append-le labels.start labels.trail (lowering labels.values l parent ∷ []) within

  -- it is looked at
  pub waiting_new : IsWaiting next l.x
  waiting_new = (fall, length labels.trail, queue_new, ap (λ (e : Lowering). e.literal.x) entry_new, ap (λ (e : Lowering). e.now) entry_new ∙ sym at_x)

  module _ (within : labels.start ≤ length labels.trail) (queued : (f place : ℕ) → Contains labels.queue (f, place) → (labels.start ≤ place) × (place < length labels.trail)) where
    pub queued_next : (f place : ℕ) → Contains next.queue (f, place) → (next.start ≤ place) × (place < length next.trail)
    queued_next f place h = elim (queue_cases (f, place) h) [
      | inl e ↦
          let here : length labels.trail ≡ place = ap (λ (x : ℕ × ℕ). x.1) e in
          (omega (arith, s, longer, here, within), omega (arith, longer, here))
      | inr old ↦ let at = queued f place old in let low = at.0 in let high = at.1 in (omega (arith, s, low), omega (arith, longer, high))
    ]

    pub waiting_still : (p : ℕ) → p ≢ l.x → IsWaiting labels p → IsWaiting next p
    waiting_still p ne w =
        let old = entry_old w.1 (queued w.0 w.1 w.2).1 in
        (w.0, w.1, queue_old (w.0, w.1) w.2, ap (λ (e : Lowering). e.literal.x) old ∙ w.3, ap (λ (e : Lowering). e.now) old ∙ w.4 ∙ sym (at_other p ne))

  -- the measure
  pub room_next : low_side ≤ℤ (value_at labels.values l.y +ℤ l.c) → (value_at labels.values l.y +ℤ l.c) <ℤ value_at labels.values l.x → room next < room labels
  room_next low bad =
      let falls = height_falls (value_at labels.values l.y +ℤ l.c) (value_at labels.values l.x) low bad in
      let sums : sum_by height (set labels.values l.x (value_at labels.values l.y +ℤ l.c)) + height (value_at labels.values l.x) ≡ sum_by height labels.values + height (value_at labels.values l.y +ℤ l.c) = sum_by-set height labels.values l.x (value_at labels.values l.y +ℤ l.c) (pos 0) x_in in
      let same : sum_by height next.values ≡ sum_by height (set labels.values l.x (value_at labels.values l.y +ℤ l.c)) = ap (sum_by height) v in
      let count = length_permutation ((fall, length labels.trail) ∷ labels.queue) next.queue q in
      omega (arith, falls, sums, same, count)

-- an entry that is known by an equal one
traced_by : (trail : List Lowering) (from : ℕ) (ls : List Literal) (source : ℕ) (base : ℤ) (k : ℕ) (d : Lowering) → entry_at trail k ≡ d → Contains ls d.literal → d.literal.y ≡ point_of trail source d.parent → d.now ≡ level_of trail base d.parent +ℤ d.literal.c → (0 < d.parent → from < d.parent) → d.parent ≤ k → IsTraced ls source base from trail k
traced_by trail from ls source base k d e given y_is now_is low high =
    let parent : (entry_at trail k).parent ≡ d.parent = ap (λ (a : Lowering). a.parent) e in
    record {
      given = subst (λ (a : Lowering). Contains ls a.literal) (sym e) given;
      y_is = ap (λ (a : Lowering). a.literal.y) e ∙ y_is ∙ ap (point_of trail source) (sym parent);
      now_is = ap (λ (a : Lowering). a.now) e ∙ now_is ∙ ap (λ (a : Lowering). level_of trail base a.parent +ℤ a.literal.c) (sym e);
      low = λ some. let l = low (omega (arith, parent, some)) in omega (arith, parent, l);
      high = omega (arith, parent, high);
    }

-- a literal of the net that fails, and does not begin where the new one does
module _ (points : ℕ) (ls : List Literal) (new : Literal) (first : List ℤ) (labels : Labelled) (start : IsStart points ls new first) (b : IsLowering points ls new first labels) where
  -- every sum is a value
  pub low_sum : (p : ℕ) (c : ℤ) → neg_ℤ (pos (bound_limit + 1)) ≤ℤ c → low_side ≤ℤ (value_at labels.values p +ℤ c)
  low_sum p c low =
      let above = b.between.above p in
      let f = (start.range p).low in
      let x = (start.range new.x).high in
      let y = (start.range new.y).low in
      let o = (over_new).low in
      omega (arith, ints, above, f, x, y, o, low)
    where
      over_new : IsOver points new
      over_new = let at = start.given in subst (IsOver points) at.2 (start.over at.0 new at.1)

  pub fits_sum : (p : ℕ) (c : ℤ) → neg_ℤ (pos (bound_limit + 1)) ≤ℤ c → c ≤ℤ pos bound_limit → FitsValue (value_at labels.values p +ℤ c)
  fits_sum p c low high =
      let below = b.between.below p in
      let f = (start.range p).high in
      let l = low_sum p c low in
      omega (arith, ints, below, f, l, high)

  module _ (k : ℕ) (lt : k < length ls) (y_ne : (literal_at ls k).y ≢ new.y) (bad : (value_at labels.values (literal_at ls k).y +ℤ (literal_at ls k).c) <ℤ value_at labels.values (literal_at ls k).x) where
    -- it is no loop at one point, which would hold
    pub apart : (literal_at ls k).y ≢ (literal_at ls k).x
    apart e =
        let h = start.holds k lt y_ne in
        let f = ap (value_at first) e in
        let g = ap (value_at labels.values) e in
        omega (arith, ints, h, f, g, bad)

    pub fine : value_at first (literal_at ls k).x ≤ℤ ((value_at labels.values (literal_at ls k).y +ℤ (literal_at ls k).c) +ℤ gap_of first new)
    fine =
        let h = start.holds k lt y_ne in
        let a = b.between.above (literal_at ls k).y in
        omega (arith, ints, h, a)

module _ (points : ℕ) (ls : List Literal) (new : Literal) (first : List ℤ) (labels next : Labelled) (l : Literal) (parent fall : ℕ)
    (over : IsOver points l) (given : Contains ls l) (x_ne : l.x ≢ new.y)
    (bad : (value_at labels.values l.y +ℤ l.c) <ℤ value_at labels.values l.x)
    (fine : value_at first l.x ≤ℤ ((value_at labels.values l.y +ℤ l.c) +ℤ gap_of first new))
    (b : IsLowering points ls new first labels)
    (v : next.values ≡ set labels.values l.x (value_at labels.values l.y +ℤ l.c))
    (t : next.trail ≡ labels.trail ++ lowering labels.values l parent ∷ [])
    (s : next.start ≡ labels.start)
    (q : IsPermutation ((fall, length labels.trail) ∷ labels.queue) next.queue)
    (within : labels.start ≤ length labels.trail)
    (y_is : l.y ≡ point_of labels.trail new.y parent)
    (now_is : value_at labels.values l.y ≡ level_of labels.trail (value_at first new.y) parent)
    (low : 0 < parent → labels.start < parent)
    (high : parent ≤ length labels.trail) where
  x_in : l.x < length labels.values
  x_in = let count = b.between.count in let o = over.x_in in omega arith

  next_x : value_at next.values l.x ≡ value_at labels.values l.y +ℤ l.c
  next_x = at_x labels next l parent fall x_in v t s q

  next_other : (p : ℕ) → p ≢ l.x → value_at next.values p ≡ value_at labels.values p
  next_other = at_other labels next l parent fall x_in v t s q

  by_point : (P : ℤ → ℤ → Type 0) (p : ℕ) → P (value_at labels.values l.x) (value_at next.values l.x) → P (value_at labels.values p) (value_at labels.values p) → P (value_at labels.values p) (value_at next.values p)
  by_point P p here other = elim (cases_eq p l.x) [
    | inl e ↦ subst (λ (k : ℕ). P (value_at labels.values k) (value_at next.values k)) (sym e) here
    | inr ne ↦ subst (P (value_at labels.values p)) (sym (next_other p ne)) other
  ]

  lowers : (p : ℕ) → value_at next.values p ≤ℤ value_at labels.values p
  lowers p = by_point (λ (old now : ℤ). now ≤ℤ old) p (let e = next_x in omega (arith, ints, e, bad)) (omega (arith, ints))

  pub between_next : IsBetween points ls new first next.values
  between_next = record {
    count = ap (length {A = ℤ}) v ∙ length-set labels.values l.x (value_at labels.values l.y +ℤ l.c) ∙ b.between.count;
    below = λ p. let f = lowers p in let g = b.between.below p in omega (arith, ints, f, g);
    above = λ p. elim (cases_eq p l.x) [
      | inl e ↦ let f = ap (value_at next.values) e ∙ next_x in let g = ap (value_at first) e in omega (arith, ints, f, g, fine)
      | inr ne ↦ let f = next_other p ne in let g = b.between.above p in omega (arith, ints, f, g)
    ];
    bounds = λ others sched p p_in. elim (cases_eq p l.x) [
      | inl e ↦
          let f = ap (value_at next.values) e ∙ next_x in
          let g = ap (value_at others) e in
          let h : Holds others l = subst (Holds others) given.2 (sched.holds given.0 l given.1) in
          let k = b.between.bounds others sched l.y over.y_in in
          omega (arith, ints, f, g, h, k)
      | inr ne ↦ let f = next_other p ne in let k = b.between.bounds others sched p p_in in omega (arith, ints, f, k)
    ];
    kept = next_other new.y (λ e. x_ne (sym e)) ∙ b.between.kept;
  }

  point_same : (n : ℕ) → n ≤ length labels.trail → point_of next.trail new.y n ≡ point_of labels.trail new.y n
  point_same zero le = refl
  point_same (suc n) le = ap (λ (e : Lowering). e.literal.x) (entry_old labels next l parent fall x_in v t s q n (omega arith))

  level_same : (n : ℕ) → n ≤ length labels.trail → level_of next.trail (value_at first new.y) n ≡ level_of labels.trail (value_at first new.y) n
  level_same zero le = refl
  level_same (suc n) le = ap (λ (e : Lowering). e.now) (entry_old labels next l parent fall x_in v t s q n (omega arith))

  traced_old : (k : ℕ) → labels.start ≤ k → k < length labels.trail → IsTraced ls new.y (value_at first new.y) next.start next.trail k
  traced_old k from lt =
      let old = b.traced k from lt in
      let e = entry_old labels next l parent fall x_in v t s q k lt in
      let parent_low = old.low in
      let parent_high = old.high in
      let up : (entry_at labels.trail k).parent ≤ length labels.trail = omega arith in
      traced_by next.trail next.start ls new.y (value_at first new.y) k (entry_at labels.trail k) e old.given
      (old.y_is ∙ sym (point_same (entry_at labels.trail k).parent up))
      (old.now_is ∙ ap (λ (z : ℤ). z +ℤ (entry_at labels.trail k).literal.c) (sym (level_same (entry_at labels.trail k).parent up)))
      (λ some. let l = old.low some in omega (arith, s, l))
      old.high

  traced_new : IsTraced ls new.y (value_at first new.y) next.start next.trail (length labels.trail)
  traced_new =
      let e = entry_new labels next l parent fall x_in v t s q in
      traced_by next.trail next.start ls new.y (value_at first new.y) (length labels.trail) (lowering labels.values l parent) e given
      (y_is ∙ sym (point_same parent high))
      (ap (λ (z : ℤ). z +ℤ l.c) (now_is ∙ sym (level_same parent high)))
      (λ some. let l = low some in omega (arith, s, l))
      high

  away_new : (entry_at next.trail (length labels.trail)).literal.x ≢ new.y
  away_new e = x_ne (sym (ap (λ (d : Lowering). d.literal.x) (entry_new labels next l parent fall x_in v t s q)) ∙ e)

  pub lowering_next : IsLowering points ls new first next
  lowering_next =
      let size = longer labels next l parent fall x_in v t s q in
      record {
        between = between_next;
        traced = λ k from lt. elim (cases_lt k (length labels.trail)) [
          | inl below ↦ traced_old k (omega (arith, s, from)) below
          | inr above ↦ let e : length labels.trail ≡ k = omega arith in subst (IsTraced ls new.y (value_at first new.y) next.start next.trail) e traced_new
        ];
        away = λ k from lt. elim (cases_lt k (length labels.trail)) [
          | inl below ↦
              let e = entry_old labels next l parent fall x_in v t s q k below in
              (λ h. b.away k (omega (arith, s, from)) below (sym (ap (λ (d : Lowering). d.literal.x) e) ∙ h))
          | inr above ↦ let e : length labels.trail ≡ k = omega arith in subst (λ (j : ℕ). (entry_at next.trail j).literal.x ≢ new.y) e away_new
        ];
        queued = queued_next labels next l parent fall x_in v t s q within b.queued;
      }

  pub holds_still : (m : Literal) → m.y ≢ l.x → Holds labels.values m → Holds next.values m
  holds_still m ne h = let f = next_other m.y ne in let g = lowers m.x in omega (arith, ints, f, g, h)

  waits_still : (p : ℕ) → p ≢ l.x → IsWaiting labels p → IsWaiting next p
  waits_still = waiting_still labels next l parent fall x_in v t s q within b.queued

  -- the literals that begin at a point are looked at from the newest on: one more was
  pub scanned : (number : ℕ) → 1 ≤ number → literal_at ls (number - 1) ≡ l → l.y ≢ l.x → IsScanning ls labels l.y number → IsScanning ls next l.y (number - 1)
  scanned number some is ne sc = λ k lt. elim (cases_eq (literal_at ls k).y l.x) [
    | inl here ↦ inr (inl (subst (IsWaiting next) (sym here) (waiting_new labels next l parent fall x_in v t s q)))
    | inr away ↦ elim (sc k lt) [
      | inl h ↦ inl (holds_still (literal_at ls k) away h)
      | inr o ↦ elim o [
        | inl w ↦ inr (inl (waits_still (literal_at ls k).y away w))
        | inr at ↦ elim (cases_eq k (number - 1)) [
          | inl e ↦
              let same : literal_at ls k ≡ l = ap (literal_at ls) e ∙ is in
              let own : Holds next.values l = let f = next_x in let g = next_other l.y ne in omega (arith, ints, f, g) in
              inl (subst (Holds next.values) (sym same) own)
          | inr other ↦ let at0 = at.0 in let at1 = at.1 in inr (inr (at0, omega arith))
        ]
      ]
    ]
  ]

-- a literal that holds was looked at
pub passed : (ls : List Literal) (labels : Labelled) (point number : ℕ) → 1 ≤ number → Holds labels.values (literal_at ls (number - 1)) → IsScanning ls labels point number → IsScanning ls labels point (number - 1)
passed ls labels point number some h sc = λ k lt. elim (sc k lt) [
  | inl holds ↦ inl holds
  | inr o ↦ elim o [
    | inl w ↦ inr (inl w)
    | inr at ↦ elim (cases_eq k (number - 1)) [
      | inl e ↦ inl (subst (λ (j : ℕ). Holds labels.values (literal_at ls j)) (sym e) h)
      | inr other ↦ let at0 = at.0 in let at1 = at.1 in inr (inr (at0, omega arith))
    ]
  ]
]

pub holds_not : (values : List ℤ) (l : Literal) → ((value_at values l.y +ℤ l.c) <ℤ value_at values l.x → ⊥) → Holds values l
holds_not values l n = by_lt_z (value_at values l.y +ℤ l.c) (value_at values l.x) (λ (h : (value_at values l.y +ℤ l.c) <ℤ value_at values l.x). absurd (n h)) (λ (h : value_at values l.x ≤ℤ (value_at values l.y +ℤ l.c)). omega (arith, ints))

-- what a look at a literal gives that does not hold
pub record IsLooked (points : ℕ) (ls : List Literal) (new : Literal) (labels next : Labelled) (place number : ℕ) : Type 0 where
  pub kept : IsKept labels.start (first_in labels) (older_in labels) next.trail next.values
  pub lowering : IsLowering points ls new (first_in labels) next
  pub at : IsAt next place
  pub entry : entry_at next.trail place ≡ entry_at labels.trail place
  pub scanning : IsScanning ls next (entry_at labels.trail place).literal.x (number - 1)
  pub less : room next ≤ room labels

pub literal_over : (points : ℕ) (ls : List Literal) (k : ℕ) → All (IsOver points) ls → k < length ls → IsOver points (literal_at ls k)
literal_over points ls k over lt = over k (record { x = 0; y = 0; c = pos 0 }) lt

pub looked : (points : ℕ) (ls : List Literal) (new : Literal) (labels next : Labelled) (place number : ℕ) (l : Literal) (parent fall : ℕ)
    → IsStart points ls new (first_in labels) → labels.start ≤ length labels.trail → IsLowering points ls new (first_in labels) labels
    → 1 ≤ number → number ≤ length ls → IsAt labels place → (literal_at ls (number - 1)).y ≡ (entry_at labels.trail place).literal.x
    → IsScanning ls labels (entry_at labels.trail place).literal.x number
    → l ≡ literal_at ls (number - 1) → (value_at labels.values l.y +ℤ l.c) <ℤ value_at labels.values l.x → l.x ≢ new.y
    → next.values ≡ set labels.values l.x (value_at labels.values l.y +ℤ l.c)
    → next.trail ≡ labels.trail ++ lowering labels.values l parent ∷ []
    → next.start ≡ labels.start
    → IsPermutation ((fall, length labels.trail) ∷ labels.queue) next.queue
    → parent ≡ suc place
    → IsLooked points ls new labels next place number
looked points ls new labels next place number l parent fall start within b some le at point sc is bad x_ne v t s q parent_is =
    let lt : number - 1 < length ls = omega arith in
    let at_low = at.low in
    let at_high = at.high in
    let over : IsOver points l = subst (IsOver points) (sym is) (literal_over points ls (number - 1) start.over lt) in
    let given : Contains ls l = subst (Contains ls) (sym is) (Contains-get_or ls (number - 1) (record { x = 0; y = 0; c = pos 0 }) lt) in
    let here : l.y ≡ (entry_at labels.trail place).literal.x = ap (λ (m : Literal). m.y) is ∙ point in
    let y_ne : l.y ≢ new.y = λ e. b.away place at_low at_high (sym here ∙ e) in
    let y_ne' : (literal_at ls (number - 1)).y ≢ new.y = λ e. y_ne (ap (λ (m : Literal). m.y) is ∙ e) in
    let bad' : (value_at labels.values (literal_at ls (number - 1)).y +ℤ (literal_at ls (number - 1)).c) <ℤ value_at labels.values (literal_at ls (number - 1)).x = subst (λ (m : Literal). (value_at labels.values m.y +ℤ m.c) <ℤ value_at labels.values m.x) is bad in
    let loop : l.y ≢ l.x = subst (λ (m : Literal). m.y ≢ m.x) (sym is) (apart points ls new (first_in labels) labels start b (number - 1) lt y_ne' bad') in
    let fine' : value_at (first_in labels) l.x ≤ℤ ((value_at labels.values l.y +ℤ l.c) +ℤ gap_of (first_in labels) new) = subst (λ (m : Literal). value_at (first_in labels) m.x ≤ℤ ((value_at labels.values m.y +ℤ m.c) +ℤ gap_of (first_in labels) new)) (sym is) (fine points ls new (first_in labels) labels start b (number - 1) lt y_ne' bad') in
    let x_in : l.x < length labels.values = (let count = b.between.count in let o = over.x_in in omega arith) in
    let y_is : l.y ≡ point_of labels.trail new.y parent = here ∙ sym (ap (point_of labels.trail new.y) parent_is) in
    let now_is : value_at labels.values l.y ≡ level_of labels.trail (value_at (first_in labels) new.y) parent = ap (value_at labels.values) here ∙ sym at.now_is ∙ sym (ap (level_of labels.trail (value_at (first_in labels) new.y)) parent_is) in
    let old = entry_old labels next l parent fall x_in v t s q place at_high in
    let point_ne : (entry_at labels.trail place).literal.x ≢ l.x = λ e. loop (here ∙ e) in
    let sc' : IsScanning ls labels l.y number = subst (λ (p : ℕ). IsScanning ls labels p number) (sym here) sc in
    record {
      kept = record {
        within = omega (arith, longer labels next l parent fall x_in v t s q);
        front = same_older labels next l parent fall x_in v t s q within;
        back = ap (λ (k : ℕ). first_of k next.trail next.values) (sym s) ∙ same_first labels next l parent fall x_in v t s q within;
      };
      lowering = lowering_next points ls new (first_in labels) labels next l parent fall over given x_ne bad fine' b v t s q within y_is now_is (λ h. omega (arith, parent_is)) (omega (arith, parent_is));
      at = record {
        low = omega (arith, s);
        high = omega (arith, longer labels next l parent fall x_in v t s q);
        now_is = ap (λ (d : Lowering). d.now) old ∙ at.now_is ∙ sym (at_other labels next l parent fall x_in v t s q (entry_at labels.trail place).literal.x point_ne) ∙ ap (λ (d : Lowering). value_at next.values d.literal.x) (sym old);
      };
      entry = old;
      scanning = subst (λ (p : ℕ). IsScanning ls next p (number - 1)) here (scanned points ls new (first_in labels) labels next l parent fall over given x_ne bad fine' b v t s q within y_is now_is (λ h. omega (arith, parent_is)) (omega (arith, parent_is)) number some (sym is) loop sc');
      less = (let r = room_next labels next l parent fall x_in v t s q (low_sum points ls new (first_in labels) labels start b l.y l.c over.low) bad in omega (arith, r));
    }
