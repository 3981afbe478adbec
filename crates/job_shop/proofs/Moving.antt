-- An operation of a feasible plan that is moved to its earliest start.
use Rattle.std.proofs.Common.{refl, ap, sym, subst, inl, inr, ◌∙◌, arith, ◌≡◌, ◌≢◌, ◌⊎◌, ℕ, zero, suc, ◌<◌, ◌≤◌, ◌+◌, ◌*◌, ◌^◌, ◌↔◌, Bool, true, false, true≢false, IsTrue, List, [], ◌∷◌, length, get_or, set, ℤ, pos, negsuc, ◌+ℤ◌, ◌≤ℤ◌, ◌<ℤ◌}
use Rattle.std.proofs.Math.Nat.{suc-mul, mul-le-mul_right}
use Rattle.std.proofs.lemmas.Bool.{cases_lt}
use Rattle.std.proofs.lemmas.Int.{ints, by_lt_z}
use Rattle.std.proofs.lemmas.List.{get_or-set_same, get_or-set_other, length-set}
use lib.Signed.{lt_z}
use Rattle.job_shop.specs.Shops.{Shop, Has, machine_of, duration}
use Rattle.job_shop.specs.Feasible.{IsFeasible, end, Precedes}
use Rattle.job_shop.specs.Plans.{start_in}
use Rattle.job_shop.specs.Tight.{IsBefore, IsReached}
use Rattle.job_shop.specs.code.Moving.{Timely, IsTimely, IsEarliest, IsEndOrTime, IsLastOrTime, IsMoved, start_of, total, whole_part}

-- ---- places in the list of starts

pub flat_less : (m a j i : ℕ) → a < j → i < m → a * m + i < j * m
flat_less m a j i lt within =
    let whole : suc a * m ≤ j * m = mul-le-mul_right {m = suc a} {n = j} m (omega (arith, lt)) in
    omega (arith, suc-mul a m, whole, within)

same_or : (a i j k : ℕ) → ((a ≡ j) × (i ≡ k)) ⊎ ((a ≢ j) ⊎ (i ≢ k))
same_or a i j k = elim (cases_lt a j) [
  | inl less ↦ inr (inl (λ e. omega (arith, less, e)))
  | inr ge ↦ elim (cases_lt j a) [
    | inl more ↦ inr (inl (λ e. omega (arith, more, e)))
    | inr le ↦ elim (cases_lt i k) [
      | inl less ↦ inr (inr (λ e. omega (arith, less, e)))
      | inr high ↦ elim (cases_lt k i) [
        | inl more ↦ inr (inr (λ e. omega (arith, more, e)))
        | inr low ↦ inl (omega (arith, ge, le), omega (arith, high, low))
      ]
    ]
  ]
]

flat_other : (m a i j k : ℕ) → i < m → k < m → ((a ≢ j) ⊎ (i ≢ k)) → (a * m + i) ≢ (j * m + k)
flat_other m a i j k i_in k_in apart e = elim (cases_lt a j) [
  | inl less ↦ (let below = flat_less m a j i less i_in in omega (arith, below, e))
  | inr ge ↦ elim (cases_lt j a) [
    | inl more ↦ (let below = flat_less m j a k more k_in in omega (arith, below, e))
    | inr le ↦ (let rows : a ≡ j = omega (arith, ge, le) in
        let products : a * m ≡ j * m = ap (λ (n : ℕ). n * m) rows in
        let places : i ≡ k = omega (arith, products, e) in
        elim apart [ inl f ↦ f rows | inr f ↦ f places ])
  ]
]

module _ (s : Shop) (starts : List ℤ) (j k : ℕ) (time : ℤ) (many : length starts ≡ length s.jobs * s.machines) (has : Has s j k) where
  pub place_in : j * s.machines + k < length starts
  place_in = let below = flat_less s.machines j (length s.jobs) k has.0 has.1 in omega (arith, below, many)

  pub start_here : start_in s (set starts (j * s.machines + k) time) j k ≡ time
  start_here = get_or-set_same starts (j * s.machines + k) time (pos 0) place_in

  pub start_there : (a i : ℕ) → Has s a i → ((a ≢ j) ⊎ (i ≢ k)) → start_in s (set starts (j * s.machines + k) time) a i ≡ start_in s starts a i
  start_there a i h apart = get_or-set_other starts (j * s.machines + k) (a * s.machines + i) time (pos 0) (flat_other s.machines a i j k h.1 has.1 apart)

-- ---- the plan stays feasible

module _ (s : Shop) (f g : ℕ → ℕ → ℤ) (j k : ℕ) (time : ℤ) (has : Has s j k) (here : g j k ≡ time) (there : (a i : ℕ) → Has s a i → ((a ≢ j) ⊎ (i ≢ k)) → g a i ≡ f a i)
    (feasible : IsFeasible s f) (low : pos 0 ≤ℤ time) (order : (i : ℕ) → k ≡ i + 1 → end s f j i ≤ℤ time)
    (machine : (a i : ℕ) → Has s a i → IsBefore s f a i j k → end s f a i ≤ℤ time) (high : time ≤ℤ f j k) where
  at : (P : ℕ → ℕ → Type 0) (a i : ℕ) → (a ≡ j) × (i ≡ k) → P j k → P a i
  at P a i both h = subst (λ (n : ℕ). P n i) (sym both.0) (subst (λ (n : ℕ). P j n) (sym both.1) h)

  pub sooner : (a i : ℕ) → Has s a i → g a i ≤ℤ f a i
  sooner a i h = elim (same_or a i j k) [
    | inl both ↦ at (λ b l. g b l ≤ℤ f b l) a i both (omega (arith, ints, here, high))
    | inr apart ↦ (let same = there a i h apart in omega (arith, ints, same))
  ]

  pub ends_sooner : (a i : ℕ) → Has s a i → end s g a i ≤ℤ end s f a i
  ends_sooner a i h =
      let le = sooner a i h in
      let ends : (g a i +ℤ pos (duration s a i)) ≤ℤ (f a i +ℤ pos (duration s a i)) = omega (arith, ints, le) in
      ends

  begins : (a i : ℕ) → Has s a i → pos 0 ≤ℤ g a i
  begins a i h = elim (same_or a i j k) [
    | inl both ↦ at (λ b l. pos 0 ≤ℤ g b l) a i both (omega (arith, ints, here, low))
    | inr apart ↦ (let same = there a i h apart in let old = feasible.begins a i h in omega (arith, ints, same, old))
  ]

  in_order : (a i : ℕ) → Has s a (i + 1) → Precedes s g a i a (i + 1)
  in_order a i h =
      let first : Has s a i = (h.0, omega (arith, h.1)) in
      let ends = ends_sooner a i first in
      elim (same_or a (i + 1) j k) [
        | inl both ↦ (let now : g a (i + 1) ≡ time = at (λ b l. g b l ≡ time) a (i + 1) both here in
            let before : end s f a i ≤ℤ time = subst (λ (n : ℕ). end s f n i ≤ℤ time) (sym both.0) (order i (sym both.1)) in
            omega (arith, ints, ends, now, before))
        | inr apart ↦ (let same = there a (i + 1) h apart in let old = feasible.order a i h in omega (arith, ints, ends, same, old))
      ]

  -- the operation that is moved and another one on its machine
  against : (b l : ℕ) → Has s b l → ((b ≢ j) ⊎ (l ≢ k)) → machine_of s b l ≡ machine_of s j k → Precedes s g j k b l ⊎ Precedes s g b l j k
  against b l h apart on =
      let same = there b l h apart in
      let here_ends = ends_sooner j k has in
      let there_ends = ends_sooner b l h in
      let front : Precedes s f j k b l → Precedes s g j k b l = λ old. omega (arith, ints, here_ends, same, old) in
      elim (feasible.apart b l j k h has apart on) [
        | inl before ↦ by_lt_z (f b l) (end s f j k)
            (λ (lt : f b l <ℤ end s f j k). inr (let last = machine b l h (record { machine = on; before = before; not_behind = λ back. omega (arith, ints, lt, back) }) in omega (arith, ints, here, there_ends, last)))
            (λ (ge : end s f j k ≤ℤ f b l). inl (front ge))
        | inr behind ↦ inl (front behind)
      ]

  swapped : (a i b l : ℕ) → Precedes s g a i b l ⊎ Precedes s g b l a i → Precedes s g b l a i ⊎ Precedes s g a i b l
  swapped a i b l (inl h) = inr h
  swapped a i b l (inr h) = inl h

  other_than : (a i b l : ℕ) → (a ≡ j) × (i ≡ k) → ((a ≢ b) ⊎ (i ≢ l)) → ((b ≢ j) ⊎ (l ≢ k))
  other_than a i b l both (inl f) = inl (λ e. f (both.0 ∙ sym e))
  other_than a i b l both (inr f) = inr (λ e. f (both.1 ∙ sym e))

  turned : (a i b l : ℕ) → ((a ≢ b) ⊎ (i ≢ l)) → ((b ≢ a) ⊎ (l ≢ i))
  turned a i b l (inl f) = inl (λ e. f (sym e))
  turned a i b l (inr f) = inr (λ e. f (sym e))

  one_machine : (a i b l : ℕ) → (a ≡ j) × (i ≡ k) → machine_of s a i ≡ machine_of s b l → machine_of s b l ≡ machine_of s j k
  one_machine a i b l both on = sym on ∙ at (λ c m. machine_of s c m ≡ machine_of s j k) a i both refl

  one_at_a_time : (a i b l : ℕ) → Has s a i → Has s b l → ((a ≢ b) ⊎ (i ≢ l)) → machine_of s a i ≡ machine_of s b l → Precedes s g a i b l ⊎ Precedes s g b l a i
  one_at_a_time a i b l ha hb apart on = elim (same_or a i j k) [
    | inl both ↦ at (λ c m. Precedes s g c m b l ⊎ Precedes s g b l c m) a i both (against b l hb (other_than a i b l both apart) (one_machine a i b l both on))
    | inr first ↦ elim (same_or b l j k) [
      | inl both ↦ at (λ c m. Precedes s g a i c m ⊎ Precedes s g c m a i) b l both
          (swapped j k a i (against a i ha (other_than b l a i both (turned a i b l apart)) (one_machine b l a i both (sym on))))
      | inr second ↦ (let one = there a i ha first in let two = there b l hb second in
          let one_ends = ends_sooner a i ha in let two_ends = ends_sooner b l hb in
          elim (feasible.apart a i b l ha hb apart on) [
            | inl before ↦ inl (omega (arith, ints, one_ends, two, before))
            | inr behind ↦ inr (omega (arith, ints, two_ends, one, behind))
          ])
    ]
  ]

  pub still_feasible : IsFeasible s g
  still_feasible = record { begins = begins; order = in_order; apart = one_at_a_time }

-- ---- the sum of the starts

whole_less : (z x : ℤ) → pos 0 ≤ℤ z → z <ℤ x → whole_part z < whole_part x
whole_less (pos m) (pos n) low less = omega (arith, ints, less)
whole_less (pos m) (negsuc n) low less = absurd (omega (arith, ints, less))
whole_less (negsuc m) x low less = absurd (omega (arith, ints, low))

pub total_less : (xs : List ℤ) (p : ℕ) (z : ℤ) → p < length xs → pos 0 ≤ℤ z → z <ℤ get_or xs p (pos 0) → total (set xs p z) < total xs
total_less [] p z lt low less = absurd (omega (arith, lt))
total_less (x ∷ xs) zero z lt low less =
    let first = whole_less z x low less in
    omega (arith, first)
total_less (x ∷ xs) (suc p) z lt low less =
    let rest = total_less xs p z (omega (arith, lt)) low less in
    omega (arith, rest)

-- ---- how early it may be

-- the same, as far as the first so many jobs are looked at
pub record IsEarliestBelow (p : Timely) (j k n : ℕ) (time : ℤ) : Type 0 where
  pub low : pos 0 ≤ℤ time
  pub order : (i : ℕ) → k ≡ i + 1 → end p.shop (start_of p) j i ≤ℤ time
  pub machine : (a i : ℕ) → a < n → Has p.shop a i → IsBefore p.shop (start_of p) a i j k → end p.shop (start_of p) a i ≤ℤ time
  pub high : time ≤ℤ start_of p j k
  pub reached : IsReached p.shop (start_of p) j k time

module _ (p : Timely) (j k : ℕ) where
  abbrev f : ℕ → ℕ → ℤ
  f = start_of p

  pub none_below : (time : ℤ) → pos 0 ≤ℤ time → ((i : ℕ) → k ≡ i + 1 → end p.shop f j i ≤ℤ time) → time ≤ℤ f j k → IsReached p.shop f j k time → IsEarliestBelow p j k 0 time
  none_below time low order high reached = record { low = low; order = order; machine = λ a i lt h before. absurd (omega (arith, lt)); high = high; reached = reached }

  module _ (n : ℕ) (time more : ℤ) (known : IsEarliestBelow p j k n time) (n_in : n < length p.shop.jobs) (later : time ≤ℤ more)
      (each : (i : ℕ) → i < p.shop.machines → IsBefore p.shop f n i j k → end p.shop f n i ≤ℤ more) where
    high_more : IsLastOrTime p j k n time more → more ≤ℤ f j k
    high_more (inl e) =
        let old = known.high in
        omega (arith, ints, old, e)
    high_more (inr (i, within, before, e)) =
        let front = before.before in
        omega (arith, ints, front, e)

    reached_more : IsLastOrTime p j k n time more → IsReached p.shop f j k more
    reached_more (inl e) = subst (λ (z : ℤ). IsReached p.shop f j k z) (sym e) known.reached
    reached_more (inr (i, within, before, e)) = inr (inr (n, i, (n_in, within), before, e))

    pub one_more : IsLastOrTime p j k n time more → IsEarliestBelow p j k (n + 1) more
    one_more one =
        let low = known.low in
        record {
          low = omega (arith, ints, low, later);
          order = λ i e. (let old = known.order i e in omega (arith, ints, old, later));
          machine = λ a i lt h before. elim (cases_lt a n) [
            | inl below ↦ (let old = known.machine a i below h before in omega (arith, ints, old, later))
            | inr ge ↦ (let is : a ≡ n = omega (arith, lt, ge) in
                subst (λ (b : ℕ). end p.shop f b i ≤ℤ more) (sym is) (each i h.1 (subst (λ (b : ℕ). IsBefore p.shop f b i j k) is before)))
          ];
          high = high_more one;
          reached = reached_more one;
        }

  pub all_below : (n : ℕ) (time : ℤ) → n ≡ length p.shop.jobs → IsEarliestBelow p j k n time → IsEarliest p j k time
  all_below n time e h = record {
    low = h.low;
    order = h.order;
    machine = λ a i has before. h.machine a i (omega (arith, has.0, e)) has before;
    high = h.high;
    reached = h.reached;
  }

  -- a time that isn't before the start is the start
  pub reached_start : (time : ℤ) → IsEarliest p j k time → f j k ≤ℤ time → IsReached p.shop f j k (f j k)
  reached_start time h le =
      let high = h.high in
      let same : time ≡ f j k = omega (arith, ints, le, high) in
      subst (λ (z : ℤ). IsReached p.shop f j k z) same h.reached

  module _ (is : IsTimely p) (has : Has p.shop j k) where
    -- the operation before it in its job
    module _ (before : ℕ) (e : k ≡ before + 1) where
      pub has_before : Has p.shop j before
      has_before = (has.0, omega (arith, has.1, e))

      pub before_ends : end p.shop f j before ≤ℤ f j k
      before_ends = subst (λ (n : ℕ). end p.shop f j before ≤ℤ f j n) (sym e) (is.feasible.order j before (subst (λ (n : ℕ). Has p.shop j n) e has))

      pub before_low : pos 0 ≤ℤ end p.shop f j before
      before_low =
          let begins = is.feasible.begins j before has_before in
          let ends : pos 0 ≤ℤ (f j before +ℤ pos (duration p.shop j before)) = omega (arith, ints, begins) in
          ends

    pub start_near : f j k <ℤ pos (2 ^ 127)
    start_near =
        let ends : (f j k +ℤ pos (duration p.shop j k)) ≤ℤ p.latest = is.ends j k has in
        let near = is.near in
        omega (arith, ints, ends, near)

    module _ (time z : ℤ) (place : ℕ) (early : IsEarliest p j k time) (less : time <ℤ f j k) (at : place ≡ j * p.shop.machines + k) (same : z ≡ time) where
      abbrev moved_to : ℕ → ℤ → Timely
      moved_to n y = record { shop = p.shop; starts = set p.starts n y; latest = p.latest }

      here_is : start_of (moved_to (j * p.shop.machines + k) time) j k ≡ time
      here_is = start_here p.shop p.starts j k time is.many has

      there_is : (a i : ℕ) → Has p.shop a i → ((a ≢ j) ⊎ (i ≢ k)) → start_of (moved_to (j * p.shop.machines + k) time) a i ≡ f a i
      there_is = start_there p.shop p.starts j k time is.many has

      sooner_is : (a i : ℕ) → Has p.shop a i → start_of (moved_to (j * p.shop.machines + k) time) a i ≤ℤ f a i
      sooner_is = sooner p.shop f (start_of (moved_to (j * p.shop.machines + k) time)) j k time has here_is there_is is.feasible early.low early.order early.machine early.high

      ends_are : (a i : ℕ) → Has p.shop a i → end p.shop (start_of (moved_to (j * p.shop.machines + k) time)) a i ≤ℤ end p.shop f a i
      ends_are = ends_sooner p.shop f (start_of (moved_to (j * p.shop.machines + k) time)) j k time has here_is there_is is.feasible early.low early.order early.machine early.high

      exchanged : (P : Timely → Type 0) → P (moved_to (j * p.shop.machines + k) time) → P (moved_to place z)
      exchanged P h = subst (λ (n : ℕ). P (moved_to n z)) (sym at) (subst (λ (y : ℤ). P (moved_to (j * p.shop.machines + k) y)) (sym same) h)

      pub moved_timely : IsTimely (moved_to place z)
      moved_timely = exchanged IsTimely (record {
        many = length-set p.starts (j * p.shop.machines + k) time ∙ is.many;
        feasible = still_feasible p.shop f (start_of (moved_to (j * p.shop.machines + k) time)) j k time has here_is there_is is.feasible early.low early.order early.machine early.high;
        ends = λ a i h. (let le = ends_are a i h in let old = is.ends a i h in omega (arith, ints, le, old));
        near = is.near;
      })

      pub moved_is : IsMoved p (moved_to place z)
      moved_is = exchanged (IsMoved p) (record { shop = refl; latest = refl; sooner = sooner_is })

      pub moved_less : total (moved_to place z).starts < total p.starts
      moved_less = exchanged (λ (q : Timely). total q.starts < total p.starts) (total_less p.starts (j * p.shop.machines + k) time (place_in p.shop p.starts j k time is.many has) early.low less)

-- ---- the latest end among a job's operations

-- as far as the first so many of them are looked at
pub record IsLatestBelow (p : Timely) (j k a n : ℕ) (time latest : ℤ) : Type 0 where
  pub later : time ≤ℤ latest
  pub each : (i : ℕ) → i < n → IsBefore p.shop (start_of p) a i j k → end p.shop (start_of p) a i ≤ℤ latest
  pub one : IsLastOrTime p j k a time latest

module _ (p : Timely) (j k a n : ℕ) (time latest more : ℤ) (known : IsLatestBelow p j k a n time latest) (n_in : n < p.shop.machines) (later : latest ≤ℤ more)
    (covers : IsBefore p.shop (start_of p) a n j k → end p.shop (start_of p) a n ≤ℤ more) where
  last_one : IsEndOrTime p j k a n latest more → IsLastOrTime p j k a time more
  last_one (inl e) = subst (λ (z : ℤ). IsLastOrTime p j k a time z) (sym e) known.one
  last_one (inr (before, e)) = inr (n, n_in, before, e)

  pub one_end : IsEndOrTime p j k a n latest more → IsLatestBelow p j k a (n + 1) time more
  one_end one =
      let old = known.later in
      record {
        later = omega (arith, ints, old, later);
        each = λ i lt before. elim (cases_lt i n) [
          | inl below ↦ (let le = known.each i below before in omega (arith, ints, le, later))
          | inr ge ↦ (let is : i ≡ n = omega (arith, lt, ge) in
              subst (λ (m : ℕ). end p.shop (start_of p) a m ≤ℤ more) (sym is) (covers (subst (λ (m : ℕ). IsBefore p.shop (start_of p) a m j k) is before)))
        ];
        one = last_one one;
      }

-- ---- tests

less_than : (x y : ℤ) → lt_z x y ≡ true → x <ℤ y
less_than x y h = grind (arith, ints)

pub not_less : (x y : ℤ) → lt_z x y ≡ false → y ≤ℤ x
not_less x y h = grind (arith, ints)

module _ (s : Shop) (f : ℕ → ℕ → ℤ) (a i j k : ℕ) where
  before_by : (x y : ℤ) (b : Bool) → lt_z x y ≡ b → machine_of s a i ≡ machine_of s j k → end s f a i ≤ℤ f j k → x ≡ f a i → y ≡ end s f j k → IsTrue b ↔ IsBefore s f a i j k
  before_by x y true e on before at ends =
      let less = less_than x y e in
      ((λ t. record { machine = on; before = before; not_behind = λ back. omega (arith, ints, less, at, ends, back) }), (λ h. refl))
  before_by x y false e on before at ends =
      let le = not_less x y e in
      ((λ t. absurd (true≢false (sym t))), (λ h. absurd (h.not_behind (omega (arith, ints, le, at, ends)))))

  pub before_test : (x y : ℤ) → machine_of s a i ≡ machine_of s j k → end s f a i ≤ℤ f j k → x ≡ f a i → y ≡ end s f j k → IsTrue (lt_z x y) ↔ IsBefore s f a i j k
  before_test x y on before at ends = before_by x y (lt_z x y) refl on before at ends

  pub on_another : (machine_of s a i ≢ machine_of s j k) → IsTrue false ↔ IsBefore s f a i j k
  on_another ne = ((λ t. absurd (true≢false (sym t))), (λ h. absurd (ne h.machine)))

  pub too_late : f j k <ℤ end s f a i → IsTrue false ↔ IsBefore s f a i j k
  too_late late =
      ((λ t. absurd (true≢false (sym t))), (λ h. absurd (let before = h.before in omega (arith, ints, late, before))))
