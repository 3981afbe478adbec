-- Several operations that are moved, one after the other.
use Rattle.std.proofs.Common.{refl, ap, sym, subst, inl, inr, ◌∙◌, arith, ◌≡◌, ◌⊎◌, ℕ, suc, zero, ◌<◌, ◌≤◌, ◌+◌, ◌*◌, ◌^◌, ◌||◌, length, Bool, true, false, List, ℤ, pos, ◌≤ℤ◌, ◌<ℤ◌}
use Rattle.std.proofs.lemmas.Bool.{cases_lt}
use Rattle.std.proofs.lemmas.Int.{ints, by_lt_z}
use Rattle.job_shop.specs.Shops.{Shop, Has}
use Rattle.job_shop.specs.Feasible.{IsFeasible, IsMakespan, EndsBy, end}
use Rattle.job_shop.specs.Plans.{start_in, IsPlan, IsLeastPlan}
use Rattle.job_shop.specs.Tight.{IsReached, IsTight, StartsNoLater}
use Rattle.job_shop.specs.code.Moving.{Timely, IsTimely, start_of, total, IsMoved, MovesOr}

pub moved_more : (first now later : Timely) → IsMoved first now → IsMoved now later → IsMoved first later
moved_more first now later one two = record {
  shop = two.shop ∙ one.shop;
  latest = two.latest ∙ one.latest;
  sooner = λ j k h.
      (let a = one.sooner j k h in
      let b = two.sooner j k (subst (λ (s : Shop). Has s j k) (sym one.shop) h) in
      omega (arith, ints, a, b));
}

abbrev pub At : Timely → ℕ → ℕ → Type 0
At p j k = IsReached p.shop (start_of p) j k (start_of p j k)

module _ (first now later : Timely) where
  no_more : (P : Type 0) (b : Bool) → MovesOr P first now b → total now.starts ≤ total first.starts
  no_more P true h = omega (arith, h)
  no_more P false h =
      let e = ap total h.0 in
      omega (arith, e)

  -- behind a step that moved something
  moves : (P Q R : Type 0) (b : Bool) → MovesOr P first now b → MovesOr Q now later true → MovesOr R first later true
  moves P Q R b h s =
      let le = no_more P b h in
      omega (arith, le, s)

  -- and behind one that didn't
  stays : (P Q R : Type 0) (b : Bool) → MovesOr P first now b → MovesOr Q now later false → (now.starts ≡ first.starts → P → Q → R) → MovesOr R first later b
  stays P Q R true h s f =
      let e = ap total s.0 in
      omega (arith, h, e)
  stays P Q R false h s f = (s.0 ∙ h.0, f h.0 h.1 s.1)

  -- behind a step of either kind
  pub steps : (P Q R : Type 0) (b r : Bool) → MovesOr P first now b → MovesOr Q now later r → (now.starts ≡ first.starts → P → Q → R) → MovesOr R first later (b || r)
  steps P Q R true true h s f = moves P Q R true h s
  steps P Q R false true h s f = moves P Q R false h s
  steps P Q R true false h s f = stays P Q R true h s f
  steps P Q R false false h s f = stays P Q R false h s f

  module _ (shop : now.shop ≡ first.shop) (same : now.starts ≡ first.starts) where
    pub at_first : (j k : ℕ) → At now j k → At first j k
    at_first j k h =
        subst (λ (s : Shop). IsReached s (start_in s first.starts) j k (start_in s first.starts j k)) shop
        (subst (λ (xs : List ℤ). IsReached now.shop (start_in now.shop xs) j k (start_in now.shop xs j k)) same h)

    pub job_tight : (j i : ℕ) → ((k : ℕ) → k < i → At first j k) → At now j i → (k : ℕ) → k < i + 1 → At first j k
    job_tight j i known h k lt = elim (cases_lt k i) [
      | inl below ↦ known k below
      | inr ge ↦ (let is : k ≡ i = omega (arith, lt, ge) in subst (λ (n : ℕ). At first j n) (sym is) (at_first j i h))
    ]

    pub jobs_tight : (i : ℕ) → ((j k : ℕ) → Has first.shop j k → j < i → At first j k) → ((k : ℕ) → k < now.shop.machines → At now i k)
        → (j k : ℕ) → Has first.shop j k → j < i + 1 → At first j k
    jobs_tight i known h j k has lt = elim (cases_lt j i) [
      | inl below ↦ known j k has below
      | inr ge ↦ (let is : j ≡ i = omega (arith, lt, ge) in
          let within : k < now.shop.machines = subst (λ (s : Shop). k < s.machines) (sym shop) has.1 in
          subst (λ (n : ℕ). At first n k) (sym is) (at_first i k (h k within)))
    ]

-- ---- the latest end

module _ (s : Shop) (f : ℕ → ℕ → ℤ) where
  record LastOf (j n : ℕ) : Type 0 where
    at : ℕ
    within : at ≤ n
    last : (i : ℕ) → i ≤ n → end s f j i ≤ℤ end s f j at

  row_last : (j n : ℕ) → LastOf j n
  row_last j zero = record {
    at = 0;
    within = omega arith;
    last = λ i le. (let is : i ≡ 0 = omega (arith, le) in subst (λ (n : ℕ). end s f j n ≤ℤ end s f j 0) (sym is) (omega (arith, ints)));
  }
  row_last j (suc n) =
      let before = row_last j n in
      by_lt_z (end s f j before.at) (end s f j (suc n))
      (λ (lt : end s f j before.at <ℤ end s f j (suc n)). record {
        at = suc n;
        within = omega arith;
        last = λ i le. elim (cases_lt i (suc n)) [
          | inl below ↦ (let old = before.last i (omega (arith, below)) in omega (arith, ints, old, lt))
          | inr ge ↦ (let is : i ≡ suc n = omega (arith, le, ge) in subst (λ (m : ℕ). end s f j m ≤ℤ end s f j (suc n)) (sym is) (omega (arith, ints)))
        ];
      })
      (λ (ge : end s f j (suc n) ≤ℤ end s f j before.at). record {
        at = before.at;
        within = (let w = before.within in omega (arith, w));
        last = λ i le. elim (cases_lt i (suc n)) [
          | inl below ↦ before.last i (omega (arith, below))
          | inr high ↦ (let is : i ≡ suc n = omega (arith, le, high) in subst (λ (m : ℕ). end s f j m ≤ℤ end s f j before.at) (sym is) ge)
        ];
      })

  record LastUpTo (n m : ℕ) : Type 0 where
    job : ℕ
    place : ℕ
    job_in : job ≤ n
    place_in : place ≤ m
    last : (a i : ℕ) → a ≤ n → i ≤ m → end s f a i ≤ℤ end s f job place

  all_last : (n m : ℕ) → LastUpTo n m
  all_last zero m =
      let row = row_last 0 m in
      record {
        job = 0;
        place = row.at;
        job_in = omega arith;
        place_in = row.within;
        last = λ a i le within. (let is : a ≡ 0 = omega (arith, le) in subst (λ (b : ℕ). end s f b i ≤ℤ end s f 0 row.at) (sym is) (row.last i within));
      }
  all_last (suc n) m =
      let before = all_last n m in
      let row = row_last (suc n) m in
      by_lt_z (end s f before.job before.place) (end s f (suc n) row.at)
      (λ (lt : end s f before.job before.place <ℤ end s f (suc n) row.at). record {
        job = suc n;
        place = row.at;
        job_in = omega arith;
        place_in = row.within;
        last = λ a i le within. elim (cases_lt a (suc n)) [
          | inl below ↦ (let old = before.last a i (omega (arith, below)) within in omega (arith, ints, old, lt))
          | inr high ↦ (let is : a ≡ suc n = omega (arith, le, high) in subst (λ (b : ℕ). end s f b i ≤ℤ end s f (suc n) row.at) (sym is) (row.last i within))
        ];
      })
      (λ (ge : end s f (suc n) row.at ≤ℤ end s f before.job before.place). record {
        job = before.job;
        place = before.place;
        job_in = (let w = before.job_in in omega (arith, w));
        place_in = before.place_in;
        last = λ a i le within. elim (cases_lt a (suc n)) [
          | inl below ↦ before.last a i (omega (arith, below)) within
          | inr high ↦ (let is : a ≡ suc n = omega (arith, le, high) in
              subst (λ (b : ℕ). end s f b i ≤ℤ end s f before.job before.place) (sym is) (let one = row.last i within in omega (arith, ints, one, ge)))
        ];
      })

  pub record HasMakespan : Type 0 where
    pub m : ℤ
    pub is : IsMakespan s f m

  record IsAbove (n : ℕ) : Type 0 where
    before : ℕ
    is : n ≡ suc before

  above : (n j : ℕ) → j < n → IsAbove n
  above zero j lt = absurd (omega (arith, lt))
  above (suc n) j lt = record { before = n; is = refl }

  -- where there is an operation, one ends last
  pub has_makespan : (j k : ℕ) → Has s j k → HasMakespan
  has_makespan j k has =
      let n = above (length s.jobs) j has.0 in
      let m = above s.machines k has.1 in
      let all = all_last n.before m.before in
      let n_is = n.is in
      let m_is = m.is in
      let job_in = all.job_in in
      let place_in = all.place_in in
      record {
        m = end s f all.job all.place;
        is = record {
          latest = λ a i h. all.last a i (omega (arith, h.0, n_is)) (omega (arith, h.1, m_is));
          attained = (all.job, (all.place, ((omega (arith, job_in, n_is), omega (arith, place_in, m_is)), refl)));
        };
      }

module _ (s : Shop) (starts others : List ℤ) (m : ℤ) (known : IsLeastPlan s starts m) (many : length others ≡ length s.jobs * s.machines) (feasible : IsFeasible s (start_in s others))
    (ends : EndsBy s (start_in s others) m) where
  -- a feasible plan that ends by then is a least one too
  pub least_too : IsLeastPlan s others m
  least_too =
      let at = known.plan.makespan.attained in
      let some = has_makespan s (start_in s others) at.0 at.1.0 at.1.1.0 in
      let last = some.is.attained in
      let low = known.least others some.m (record { many = many; feasible = feasible; makespan = some.is }) in
      let high = ends last.0 last.1.0 last.1.1.0 in
      let reached = last.1.1.1 in
      let same : some.m ≡ m = omega (arith, ints, low, high, reached) in
      record {
        plan = record { many = many; feasible = feasible; makespan = subst (λ (n : ℤ). IsMakespan s (start_in s others) n) same some.is };
        least = known.least;
      }

module _ (s : Shop) (starts : List ℤ) (m : ℤ) (known : IsLeastPlan s starts m) where
  pub begins_timely : m <ℤ pos (2 ^ 127) → IsTimely (record { shop = s; starts = starts; latest = m })
  begins_timely near = record { many = known.plan.many; feasible = known.plan.feasible; ends = known.plan.makespan.latest; near = near }

  abbrev first : Timely
  first = record { shop = s; starts = starts; latest = m }

  module _ (p : Timely) (is : IsTimely p) (moved : IsMoved first p) where
    pub least_again : IsLeastPlan s p.starts m
    least_again =
        let ends : EndsBy p.shop (start_in p.shop p.starts) m = subst (λ (n : ℤ). EndsBy p.shop (start_in p.shop p.starts) n) moved.latest is.ends in
        least_too s starts p.starts m known
        (subst (λ (t : Shop). length p.starts ≡ length t.jobs * t.machines) moved.shop is.many)
        (subst (λ (t : Shop). IsFeasible t (start_in t p.starts)) moved.shop is.feasible)
        (subst (λ (t : Shop). EndsBy t (start_in t p.starts) m) moved.shop ends)

    pub no_later : StartsNoLater s (start_in s p.starts) (start_in s starts)
    no_later = subst (λ (t : Shop). StartsNoLater s (start_in t p.starts) (start_in s starts)) moved.shop moved.sooner

    module _ (last : Timely) (shop : p.shop ≡ last.shop) (same : p.starts ≡ last.starts) (tight : IsTight last.shop (start_of last)) where
      pub tight_now : IsTight s (start_in s p.starts)
      tight_now =
          subst (λ (t : Shop). IsTight t (start_in t p.starts)) (sym shop ∙ moved.shop)
          (subst (λ (xs : List ℤ). IsTight last.shop (start_in last.shop xs)) (sym same) tight)
