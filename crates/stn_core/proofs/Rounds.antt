-- One literal of a round, over plain variables.
use Rattle.std.proofs.Common.{arith, ap, sym, ◌∙◌, subst, inl, inr, ◌⊎◌, ◌≡◌, ℕ, ◌<◌, ◌≤◌, ◌+◌, ◌*◌, List, length, take, All, Contains, get_or, set, ℤ, ◌+ℤ◌, ◌≤ℤ◌, ◌<ℤ◌, get_or-set_other, get_or-set_same, length-set}
use Rattle.std.proofs.lemmas.Int.{ints}
use Rattle.std.specs.Prelude.{true, false}
use lib.Signed.{lt_z}
use Rattle.std.proofs.lemmas.Bool.{cases_eq, cases_lt}
use Rattle.std.proofs.lemmas.List.Elements.{All-more, All-weaker, All-contains, Contains-get_or}
use Rattle.stn_core.specs.Limits.{bound_limit}
use Rattle.stn_core.specs.declared.literal.Literal.{Literal}
use Rattle.stn_core.specs.declared.label.Label.{Label}
use Rattle.stn_core.specs.Literal.{literal_at, value_at, IsOver, Holds}
use Rattle.stn_core.specs.code.Rounds.{initial_label, label_at, value_of, last_of, round_of, by_of, IsFallen, IsTraced, IsWaiting, IsDone, IsAbove, IsRound, IsLoweredIn}

-- what a test of the code says
pub below_from_test : (a b : ℤ) → lt_z a b ≡ true → a <ℤ b
below_from_test a b h = grind (arith, ints)

pub reached_from_test : (a b : ℤ) → lt_z a b ≡ false → b ≤ℤ a
reached_from_test a b h = grind (arith, ints)

abbrev pub lowered_label : List Label → Literal → ℕ → Label
lowered_label labels l round = record { value = last_of labels l.y +ℤ l.c; last = last_of labels l.x; round = round; by = l }

-- the labels after the literal has lowered its first point
abbrev pub after : List Label → Literal → ℕ → List Label
after labels l round = set labels l.x (lowered_label labels l round)

-- the point is the one that was lowered
pub record IsNew (old new : List Label) (l : Literal) (round q : ℕ) : Type 0 where
  pub q_is : q ≡ l.x
  pub value_is : value_of new q ≡ last_of old l.y +ℤ l.c
  pub last_is : last_of new q ≡ last_of old q
  pub round_is : round_of new q ≡ round
  pub by_is : by_of new q ≡ l

-- the point is as it was
pub record IsSame (old new : List Label) (q : ℕ) : Type 0 where
  pub value_is : value_of new q ≡ value_of old q
  pub last_is : last_of new q ≡ last_of old q
  pub round_is : round_of new q ≡ round_of old q
  pub by_is : by_of new q ≡ by_of old q

pub view : (old : List Label) (l : Literal) (round q : ℕ) → l.x < length old → IsNew old (after old l round) l round q ⊎ IsSame old (after old l round) q
view old l round q x_in =
    elim (cases_eq q l.x) [
      | inl e ↦
          let at : label_at (after old l round) l.x ≡ lowered_label old l round = get_or-set_same old l.x (lowered_label old l round) initial_label x_in in
          let at_q : label_at (after old l round) q ≡ lowered_label old l round = ap (λ (k : ℕ). label_at (after old l round) k) e ∙ at in
          inl (record {
            q_is = e;
            value_is = ap (λ (s : Label). s.value) at_q;
            last_is = ap (λ (s : Label). s.last) at_q ∙ ap (λ (k : ℕ). last_of old k) (sym e);
            round_is = ap (λ (s : Label). s.round) at_q;
            by_is = ap (λ (s : Label). s.by) at_q;
          })
      | inr ne ↦
          let at : label_at (after old l round) q ≡ label_at old q = get_or-set_other old l.x q (lowered_label old l round) initial_label ne in
          inr (record {
            value_is = ap (λ (s : Label). s.value) at;
            last_is = ap (λ (s : Label). s.last) at;
            round_is = ap (λ (s : Label). s.round) at;
            by_is = ap (λ (s : Label). s.by) at;
          })
    ]

pub under_last : (points : ℕ) (literals : List Literal) (labels : List Label) (round q : ℕ) → IsTraced points literals labels round q → value_of labels q ≤ℤ last_of labels q
under_last points literals labels round q t =
    elim (cases_lt (round_of labels q) round) [
      | inl h ↦ let e = t.kept h in omega (arith, ints)
      | inr h ↦ let e = t.lowered h in omega (arith, ints)
    ]

pub fell : (old : List Label) (l : Literal) (round q : ℕ) → l.x < length old → (last_of old l.y +ℤ l.c) <ℤ value_of old l.x → value_of (after old l round) q ≤ℤ value_of old q
fell old l round q x_in below =
    elim (view old l round q x_in) [
      | inl n ↦ let e = ap (λ (k : ℕ). value_of old k) n.q_is in omega (arith, ints)
      | inr s ↦ omega (arith, ints)
    ]

-- the rounds only rise
pub rose : (old : List Label) (l : Literal) (round q : ℕ) → l.x < length old → round_of old q ≤ round → round_of old q ≤ round_of (after old l round) q
rose old l round q x_in past =
    elim (view old l round q x_in) [ inl n ↦ omega arith | inr s ↦ omega arith ]

-- what is known of the points before the literal lowers its first one
pub record IsStep (points : ℕ) (literals : List Literal) (old : List Label) (l : Literal) (round : ℕ) : Type 0 where
  pub count : length old ≡ points
  pub first : 1 ≤ round
  pub given : Contains literals l
  pub over : IsOver points l
  pub traced : (p : ℕ) → p < points → IsTraced points literals old round p
  pub waiting : IsWaiting old round l
  pub below : (last_of old l.y +ℤ l.c) <ℤ value_of old l.x

pub x_in_old : {points : ℕ} {literals : List Literal} {old : List Label} {l : Literal} {round : ℕ} → IsStep points literals old l round → l.x < length old
x_in_old s = let o = s.over.x_in in let e = s.count in omega arith

-- a literal that lowered its point before still tells how
pub still_fallen : (points : ℕ) (literals : List Literal) (old : List Label) (l : Literal) (round p : ℕ) (m : Literal) → IsStep points literals old l round → IsFallen points old p m → IsSame old (after old l round) p → IsFallen points (after old l round) p m
still_fallen points literals old l round p m s f same =
    let x_in : l.x < length old = x_in_old s in
    let ty = s.traced m.y f.y_in in
    let below = s.below in
    let fy = fell old l round m.y x_in s.below in
    let ry = rose old l round m.y x_in ty.past in
    record {
      x_is = f.x_is;
      y_in = f.y_in;
      falls = let h = f.falls in omega (arith, ints);
      tight = λ h. elim (view old l round m.y x_in) [
        | inl n ↦ let e = ap (λ (k : ℕ). value_of old k) n.q_is in let g = f.falls in absurd (omega (arith, ints))
        | inr t ↦ let g : round_of old m.y < round_of old p = f.tight (omega (arith, ints)) in omega arith
      ];
      near = let h = f.near in omega arith;
    }

-- and the literal that lowers it now
pub now_fallen : (points : ℕ) (literals : List Literal) (old : List Label) (l : Literal) (round p : ℕ) → IsStep points literals old l round → IsNew old (after old l round) l round p → IsFallen points (after old l round) p l
now_fallen points literals old l round p s new =
    let x_in : l.x < length old = x_in_old s in
    let ty = s.traced l.y s.over.y_in in
    let tx = s.traced l.x s.over.x_in in
    let below = s.below in
    let ux = under_last points literals old round l.x tx in
    let uy = under_last points literals old round l.y ty in
    let fy = fell old l round l.y x_in s.below in
    let ry = rose old l round l.y x_in ty.past in
    let w : round ≤ round_of old l.y + 1 = s.waiting (omega (arith, ints)) in
    record {
      x_is = sym new.q_is;
      y_in = s.over.y_in;
      falls = omega (arith, ints);
      tight = λ h. elim (view old l round l.y x_in) [
        | inl n ↦
            let e = ap (λ (k : ℕ). value_of old k) n.q_is in
            let g = ap (λ (k : ℕ). last_of old k) n.q_is in
            absurd (omega (arith, ints))
        | inr t ↦
            elim (cases_lt (round_of old l.y) round) [
              | inl lt ↦ omega arith
              | inr ge ↦ let g = ty.lowered ge in absurd (omega (arith, ints))
            ]
      ];
      near = omega arith;
    }

pub traced_after : (points : ℕ) (literals : List Literal) (old : List Label) (l : Literal) (round p : ℕ) → IsStep points literals old l round → p < points → IsTraced points literals (after old l round) round p
traced_after points literals old l round p s p_in =
    let x_in : l.x < length old = x_in_old s in
    let t = s.traced p p_in in
    let ty = s.traced l.y s.over.y_in in
    let over = s.over in
    let below = s.below in
    let first = s.first in
    let u = under_last points literals old round p t in
    elim (view old l round p x_in) [
      | inl n ↦
          let e = ap (λ (k : ℕ). value_of old k) n.q_is in
          let new = after old l round in
          record {
            past = omega arith;
            at_most_0 = omega (arith, ints);
            low = omega (arith, ints, ap (λ (k : ℕ). k * (bound_limit + 1)) n.round_is);
            last_low = omega (arith, ints);
            last_at_most_0 = omega (arith, ints);
            kept = λ h. absurd (omega arith);
            lowered = λ h. omega (arith, ints);
            given = λ h. subst (λ (b : Literal). Contains literals b) (sym n.by_is) s.given;
            fallen = λ h. subst (λ (b : Literal). IsFallen points (after old l round) p b) (sym n.by_is) (now_fallen points literals old l round p s n);
          }
      | inr same ↦
          record {
            past = omega arith;
            at_most_0 = omega (arith, ints);
            low = omega (arith, ints, ap (λ (k : ℕ). k * (bound_limit + 1)) same.round_is);
            last_low = omega (arith, ints);
            last_at_most_0 = omega (arith, ints);
            kept = λ h. let k = t.kept (omega arith) in omega (arith, ints);
            lowered = λ h. let k = t.lowered (omega arith) in omega (arith, ints);
            given = λ h. subst (λ (b : Literal). Contains literals b) (sym same.by_is) (t.given (omega arith));
            fallen = λ h. subst (λ (b : Literal). IsFallen points (after old l round) p b) (sym same.by_is) (still_fallen points literals old l round p (by_of old p) s (t.fallen (omega arith)) same);
          }
    ]

pub last_same : (old : List Label) (l : Literal) (round q : ℕ) → l.x < length old → last_of (after old l round) q ≡ last_of old q
last_same old l round q x_in = elim (view old l round q x_in) [ inl n ↦ n.last_is | inr s ↦ s.last_is ]

pub waiting_after : (points : ℕ) (literals : List Literal) (old : List Label) (l : Literal) (round : ℕ) (m : Literal) → IsStep points literals old l round → IsOver points m → IsWaiting old round m → IsWaiting (after old l round) round m
waiting_after points literals old l round m s over waits below =
    let x_in : l.x < length old = x_in_old s in
    let ex = last_same old l round m.x x_in in
    let ey = last_same old l round m.y x_in in
    let ty = s.traced m.y over.y_in in
    let ry = rose old l round m.y x_in ty.past in
    let w : round ≤ round_of old m.y + 1 = waits (omega (arith, ints)) in
    omega arith

pub done_after : (old : List Label) (l : Literal) (round : ℕ) (m : Literal) → l.x < length old → (last_of old l.y +ℤ l.c) <ℤ value_of old l.x → IsDone old m → IsDone (after old l round) m
done_after old l round m x_in below done =
    let ey = last_same old l round m.y x_in in
    let fx = fell old l round m.x x_in below in
    omega (arith, ints)

pub done_now : (old : List Label) (l : Literal) (round : ℕ) → l.x < length old → IsDone (after old l round) l
done_now old l round x_in =
    let ey = last_same old l round l.y x_in in
    elim (view old l round l.x x_in) [
      | inl n ↦ omega (arith, ints)
      | inr s ↦
          let at = ap (λ (t : Label). t.value) (get_or-set_same old l.x (lowered_label old l round) initial_label x_in) in
          omega (arith, ints)
    ]

-- a schedule's value is within the bound of each literal
pub above_after : (points : ℕ) (literals : List Literal) (old : List Label) (l : Literal) (round p : ℕ) → IsStep points literals old l round → ((q : ℕ) → q < points → IsAbove points literals old q) → p < points → IsAbove points literals (after old l round) p
above_after points literals old l round p s above p_in values schedule =
    let x_in : l.x < length old = x_in_old s in
    let ty = s.traced l.y s.over.y_in in
    let uy = under_last points literals old round l.y ty in
    let ay = above l.y s.over.y_in values schedule in
    let ap' = above p p_in values schedule in
    let h : Holds values l = All-contains (Holds values) literals l schedule.holds s.given in
    elim (view old l round p x_in) [
      | inl n ↦ let e = ap (λ (k : ℕ). value_at values k) n.q_is in omega (arith, ints)
      | inr same ↦ omega (arith, ints)
    ]

pub step_at : (points : ℕ) (literals : List Literal) (old : List Label) (round i : ℕ) → 1 ≤ round → All (IsOver points) literals → i < length literals → IsRound points literals old round i → (last_of old (literal_at literals i).y +ℤ (literal_at literals i).c) <ℤ value_of old (literal_at literals i).x → IsStep points literals old (literal_at literals i) round
step_at points literals old round i first over i_in r below = record {
  count = r.count;
  first = first;
  given = Contains-get_or literals i _ i_in;
  over = over i _ i_in;
  traced = r.traced;
  waiting = r.waiting i _ i_in;
  below = below;
}

pub round_after : (points : ℕ) (literals : List Literal) (old : List Label) (round i : ℕ) → 1 ≤ round → All (IsOver points) literals → i < length literals → IsRound points literals old round i → (last_of old (literal_at literals i).y +ℤ (literal_at literals i).c) <ℤ value_of old (literal_at literals i).x → IsRound points literals (after old (literal_at literals i) round) round (i + 1)
round_after points literals old round i first over i_in r below =
    let l = literal_at literals i in
    let s = step_at points literals old round i first over i_in r below in
    let x_in : (literal_at literals i).x < length old = x_in_old s in
    let new = after old (literal_at literals i) round in
    record {
      count = length-set old (literal_at literals i).x _ ∙ r.count;
      traced = λ p h. traced_after points literals old (literal_at literals i) round p s h;
      above = λ p h. above_after points literals old (literal_at literals i) round p s r.above h;
      waiting = λ k d h. waiting_after points literals old (literal_at literals i) round (get_or literals k d) s (over k d h) (r.waiting k d h);
      done = All-more (IsDone (after old (literal_at literals i) round)) literals i _ i_in
          (All-weaker (IsDone old) (IsDone (after old (literal_at literals i) round)) (λ m d. done_after old (literal_at literals i) round m x_in below d) (take i literals) r.done)
          (done_now old (literal_at literals i) round x_in);
    }

-- a literal that holds by the values that the round began with changes nothing
pub round_skips : (points : ℕ) (literals : List Literal) (labels : List Label) (round i : ℕ) → i < length literals → IsRound points literals labels round i → value_of labels (literal_at literals i).x ≤ℤ (last_of labels (literal_at literals i).y +ℤ (literal_at literals i).c) → IsRound points literals labels round (i + 1)
round_skips points literals labels round i i_in r done = record {
  count = r.count;
  traced = r.traced;
  above = r.above;
  waiting = r.waiting;
  done = All-more (IsDone labels) literals i _ i_in r.done done;
}

-- the point that the literal lowers counts as lowered in this round
pub lowered_now : (points : ℕ) (old : List Label) (l : Literal) (round : ℕ) → length old ≡ points → l.x < points → IsLoweredIn points (after old l round) round l.x
lowered_now points old l round count x_in = record {
  p_in = x_in;
  round_is = ap (λ (t : Label). t.round) (get_or-set_same old l.x (lowered_label old l round) initial_label (omega arith));
}
