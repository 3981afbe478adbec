-- The values of a greatest schedule are near 0, and so in range, whatever made it: were there a gap below 0 that is wider than
-- any bound, the points under it could be raised.
use Rattle.std.proofs.Common.{arith, ap, sym, ◌∙◌, subst, inl, inr, ◌⊎◌, ◌≡◌, ℕ, suc, zero, ◌<◌, ◌≤◌, ◌+◌, ◌*◌, Bool, true, false, cond, List, [], ◌∷◌, length, map, All, get_or, ℤ, pos, neg_ℤ, ◌+ℤ◌, ◌≤ℤ◌, ◌<ℤ◌}
use Rattle.std.proofs.lemmas.Int.{ints, by_lt_z}
use Rattle.std.proofs.lemmas.Bool.{cases_Bool, cases_lt}
use Rattle.std.proofs.lemmas.List.{get_or-map, length-map, get_or_default}
use Rattle.stn_core.specs.Limits.{bound_limit, points_limit}
use Rattle.stn_core.specs.declared.literal.Literal.{Literal}
use Rattle.stn_core.specs.Schedule.{IsInRange}
use Rattle.stn_core.specs.Literal.{value_at, Holds, IsOver}
use Rattle.stn_core.specs.Schedule.{IsSchedule, IsGreatestSchedule, AreNear}
use Rattle.stn_core.proofs.Rounds.{below_from_test, reached_from_test}
use lib.Signed.{lt_z}
use Rattle.std.proofs.Math.Nat.{suc-mul}

record Above (t a : ℤ) : Type 0 where
  test : lt_z t a ≡ true
  fact : t <ℤ a

record Low (t a : ℤ) : Type 0 where
  test : lt_z t a ≡ false
  fact : a ≤ℤ t

cases_z : (t a : ℤ) → Above t a ⊎ Low t a
cases_z t a =
    elim (cases_Bool (lt_z t a)) [
      | inl e ↦ inl (record { test = e; fact = below_from_test t a e })
      | inr e ↦ inr (record { test = e; fact = reached_from_test t a e })
    ]

-- how many values are at most t
low_count : ℤ → List ℤ → ℕ
low_count t [] = 0
low_count t (a ∷ rest_of) = cond (lt_z t a) 0 1 + low_count t rest_of

count_above : (t a : ℤ) (rest_of : List ℤ) → Above t a → low_count t (a ∷ rest_of) ≡ low_count t rest_of
unfolding low_count
count_above t a rest_of h = omega (arith, ap {B = ℕ} (λ (b : Bool). cond b 0 1) h.test)

count_low : (t a : ℤ) (rest_of : List ℤ) → Low t a → low_count t (a ∷ rest_of) ≡ 1 + low_count t rest_of
unfolding low_count
count_low t a rest_of h = omega (arith, ap {B = ℕ} (λ (b : Bool). cond b 0 1) h.test)

count-le-length : (t : ℤ) (v : List ℤ) → low_count t v ≤ length v
unfolding low_count
count-le-length t [] = omega arith
count-le-length t (a ∷ rest_of) =
    let h = count-le-length t rest_of in
    elim (cases_z t a) [ inl u ↦ omega (arith, count_above t a rest_of u) | inr l ↦ omega (arith, count_low t a rest_of l) ]

count_rises : (s t : ℤ) (v : List ℤ) → s ≤ℤ t → low_count s v ≤ low_count t v
unfolding low_count
count_rises s t [] h = omega arith
count_rises s t (a ∷ rest_of) h =
    let rest = count_rises s t rest_of h in
    elim (cases_z s a) [
      | inl u ↦ elim (cases_z t a) [
        | inl u2 ↦ omega (arith, count_above s a rest_of u, count_above t a rest_of u2)
        | inr l2 ↦ omega (arith, count_above s a rest_of u, count_low t a rest_of l2)
      ]
      | inr l ↦ elim (cases_z t a) [
        | inl u2 ↦ let lf = l.fact in let uf = u2.fact in absurd (omega (arith, ints))
        | inr l2 ↦ omega (arith, count_low s a rest_of l, count_low t a rest_of l2)
      ]
    ]

-- a value that is at most t is counted
count_some : (t : ℤ) (v : List ℤ) (p : ℕ) → p < length v → value_at v p ≤ℤ t → 1 ≤ low_count t v
count_some t [] p p_in h = absurd (omega arith)
count_some t (a ∷ rest_of) zero p_in h =
    elim (cases_z t a) [ inl u ↦ let f = u.fact in absurd (omega (arith, ints)) | inr l ↦ omega (arith, count_low t a rest_of l) ]
count_some t (a ∷ rest_of) (suc p) p_in h =
    let rest = count_some t rest_of p (omega arith) h in
    elim (cases_z t a) [ inl u ↦ omega (arith, count_above t a rest_of u) | inr l ↦ omega (arith, count_low t a rest_of l) ]

-- where the counts are the same, no value is between
gap : (s t : ℤ) (v : List ℤ) (p : ℕ) → s ≤ℤ t → low_count t v ≤ low_count s v → p < length v → (value_at v p ≤ℤ s) ⊎ (t <ℤ value_at v p)
gap s t [] p h same p_in = absurd (omega arith)
gap s t (a ∷ rest_of) zero h same p_in =
    let rest = count_rises s t rest_of h in
    elim (cases_z s a) [
      | inl u ↦ elim (cases_z t a) [
        | inl u2 ↦ inr u2.fact
        | inr l2 ↦ absurd (omega (arith, count_above s a rest_of u, count_low t a rest_of l2))
      ]
      | inr l ↦ inl l.fact
    ]
gap s t (a ∷ rest_of) (suc p) h same p_in =
    gap s t rest_of p h (tail_same (cases_z s a) (cases_z t a)) (omega arith)
  where
    tail_same : Above s a ⊎ Low s a → Above t a ⊎ Low t a → low_count t rest_of ≤ low_count s rest_of
    tail_same (inl u) (inl u2) = omega (arith, count_above s a rest_of u, count_above t a rest_of u2)
    tail_same (inl u) (inr l2) = omega (arith, count_above s a rest_of u, count_low t a rest_of l2)
    tail_same (inr l) (inl u2) = let lf = l.fact in let uf = u2.fact in absurd (omega (arith, ints))
    tail_same (inr l) (inr l2) = omega (arith, count_low s a rest_of l, count_low t a rest_of l2)

-- the values up to t, raised by one
raised : ℤ → ℤ → ℤ
raised t a = cond (lt_z t a) a (a +ℤ pos 1)

raised_low : (t a : ℤ) → a ≤ℤ t → raised t a ≡ a +ℤ pos 1
unfolding raised
raised_low t a h =
    elim (cases_z t a) [
      | inl u ↦ let f = u.fact in absurd (omega (arith, ints))
      | inr l ↦ ap (λ (b : Bool). cond b a (a +ℤ pos 1)) l.test
    ]

raised_above : (t a : ℤ) → t <ℤ a → raised t a ≡ a
unfolding raised
raised_above t a h =
    elim (cases_z t a) [
      | inl u ↦ ap (λ (b : Bool). cond b a (a +ℤ pos 1)) u.test
      | inr l ↦ let f = l.fact in absurd (omega (arith, ints))
    ]

raised_at : (t : ℤ) (v : List ℤ) (p : ℕ) → p < length v → value_at (map (raised t) v) p ≡ raised t (value_at v p)
raised_at t v p p_in = get_or-map (raised t) v p (pos 0) (pos 0) p_in

raised_schedule : (w points : ℕ) (literals : List Literal) (v : List ℤ) (t : ℤ) → AreNear w literals → All (IsOver points) literals → IsSchedule points literals v → t <ℤ pos 0 → ((p : ℕ) → p < points → (value_at v p ≤ℤ t) ⊎ ((t +ℤ pos w) <ℤ value_at v p)) → IsSchedule points literals (map (raised t) v)
raised_schedule w points literals v t near over s t_low gaps = record {
  count = length-map v (raised t) ∙ s.count;
  at_most_0 = λ p h.
      let at = raised_at t v p (subst (λ (n : ℕ). p < n) (sym s.count) h) in
      let old = s.at_most_0 p h in
      elim (gaps p h) [
        | inl lo ↦ let r = raised_low t (value_at v p) lo in omega (arith, ints)
        | inr hi ↦ let r = raised_above t (value_at v p) (omega (arith, ints)) in omega (arith, ints)
      ];
  holds = λ k d h. holds_at (get_or literals k d) (near k d h) (over k d h) (s.holds k d h);
}
  where
    holds_at : (l : Literal) → neg_ℤ (pos w) ≤ℤ l.c → IsOver points l → Holds v l → Holds (map (raised t) v) l
    holds_at l low o h =
        let x_at = raised_at t v l.x (subst (λ (n : ℕ). l.x < n) (sym s.count) o.x_in) in
        let y_at = raised_at t v l.y (subst (λ (n : ℕ). l.y < n) (sym s.count) o.y_in) in
        elim (gaps l.x o.x_in) [
          | inl x_lo ↦
              let rx = raised_low t (value_at v l.x) x_lo in
              elim (gaps l.y o.y_in) [
                | inl y_lo ↦ let ry = raised_low t (value_at v l.y) y_lo in omega (arith, ints)
                | inr y_hi ↦ let ry = raised_above t (value_at v l.y) (omega (arith, ints)) in omega (arith, ints)
              ]
          | inr x_hi ↦
              let rx = raised_above t (value_at v l.x) (omega (arith, ints)) in
              elim (gaps l.y o.y_in) [
                | inl y_lo ↦ let ry = raised_low t (value_at v l.y) y_lo in omega (arith, ints)
                | inr y_hi ↦ let ry = raised_above t (value_at v l.y) (omega (arith, ints)) in omega (arith, ints)
              ]
        ]

-- below 0, one more value comes within the width of a bound
one_more : (w points : ℕ) (literals : List Literal) (v : List ℤ) (t : ℤ) (p : ℕ) → AreNear w literals → All (IsOver points) literals → IsGreatestSchedule points literals v → t <ℤ pos 0 → p < points → value_at v p ≤ℤ t → low_count t v < low_count (t +ℤ pos w) v
one_more w points literals v t p near over g t_low p_in lo =
    elim (cases_lt (low_count t v) (low_count (t +ℤ pos w) v)) [
      | inl lt ↦ lt
      | inr ge ↦
          let s = g.schedule in
          let count = s.count in
          let raised_is = raised_schedule w points literals v t near over g.schedule t_low (λ q h. gap t (t +ℤ pos w) v q (omega (arith, ints)) ge (subst (λ (n : ℕ). q < n) (sym s.count) h)) in
          let most = g.greatest (map (raised t) v) raised_is p p_in in
          let at = raised_at t v p (subst (λ (n : ℕ). p < n) (sym s.count) p_in) in
          let r = raised_low t (value_at v p) lo in
          absurd (omega (arith, ints))
    ]

counted : (w points : ℕ) (literals : List Literal) (v : List ℤ) (p : ℕ) (k : ℕ) → AreNear w literals → All (IsOver points) literals → IsGreatestSchedule points literals v → p < points → (value_at v p +ℤ pos (k * w)) <ℤ pos w → k < low_count (value_at v p +ℤ pos (k * w)) v
counted w points literals v p zero near over g p_in h = count_some _ v p (subst (λ (n : ℕ). p < n) (sym g.schedule.count) p_in) (omega (arith, ints))
counted w points literals v p (suc k) near over g p_in h =
    let step : suc k * w ≡ k * w + w = suc-mul k w in
    let before = counted w points literals v p k near over g p_in (omega (arith, ints)) in
    let more = one_more w points literals v (value_at v p +ℤ pos (k * w)) p near over g (omega (arith, ints)) p_in (omega (arith, ints)) in
    let e : (value_at v p +ℤ pos (k * w)) +ℤ pos w ≡ value_at v p +ℤ pos (suc k * (w)) = omega (arith, ints) in
    omega (arith, ap (λ (t : ℤ). low_count t v) e)

-- a value is above its width's multiple for all other points
widest : (points w : ℕ) (literals : List Literal) (v : List ℤ) → AreNear w literals → All (IsOver points) literals → IsGreatestSchedule points literals v → (p : ℕ) → p < points → pos w ≤ℤ (value_at v p +ℤ pos (points * w))
widest points w literals v near over g p p_in =
    let count = g.schedule.count in
    by_lt_z (value_at v p +ℤ pos (points * w)) (pos w) (λ (lt : (value_at v p +ℤ pos (points * w)) <ℤ pos w).
    let many = counted w points literals v p points near over g p_in lt in
    let most = count-le-length (value_at v p +ℤ pos (points * w)) v in
    absurd (omega (arith, many, most, count))) (λ (ge : pos w ≤ℤ (value_at v p +ℤ pos (points * w))). ge)

pub near_greatest : (points w : ℕ) (literals : List Literal) (v : List ℤ) → AreNear w literals → All (IsOver points) literals → IsGreatestSchedule points literals v → (p : ℕ) → p < points → neg_ℤ (pos (points * w)) ≤ℤ value_at v p
near_greatest points w literals v near over g p p_in =
    let wide = widest points w literals v near over g p p_in in
    omega (arith, ints)

pub in_range_of_greatest : (points : ℕ) (literals : List Literal) (v : List ℤ) → points ≤ points_limit → All (IsOver points) literals → IsGreatestSchedule points literals v → All IsInRange v
in_range_of_greatest points literals v few over g k d h =
    let count = g.schedule.count in
    let k_in : k < points = omega arith in
    let same : get_or v k d ≡ value_at v k = get_or_default v k d (pos 0) h in
    let high = g.schedule.at_most_0 k k_in in
    let wide = widest points (bound_limit + 1) literals v (λ i e i_in. (over i e i_in).low) over g k k_in in
    record { low = omega (arith, ints); high = omega (arith, ints) }
