-- How the rounds begin, go on and end, over plain variables.
use Rattle.std.proofs.Common.{arith, ap, sym, ◌∙◌, subst, inl, inr, ◌≡◌, ℕ, ◌<◌, ◌≤◌, ◌+◌, List, length, map, All, Contains, get_or, ℤ, pos}
use Rattle.std.proofs.lemmas.Int.{ints}
use Rattle.std.proofs.lemmas.Bool.{cases_lt}
use Rattle.std.proofs.lemmas.List.{get_or-map, length-map, take_all}
use Rattle.std.proofs.lemmas.List.Elements.{All-nil}
use Rattle.stn_core.specs.Limits.{points_limit}
use Rattle.stn_core.specs.declared.literal.Literal.{Literal}
use Rattle.stn_core.specs.declared.label.Label.{Label}
use Rattle.stn_core.specs.Literal.{value_at, IsOver, Holds}
use Rattle.stn_core.specs.Schedule.{IsGreatestSchedule}
use Rattle.stn_core.specs.Answer.{IsBest, IsCycleAmong}
use Rattle.stn_core.specs.Schedule.{IsInRange}
use Rattle.stn_core.specs.code.Rounds.{initial_label, label_value, begun, label_at, value_of, round_of, by_of, IsFallen, IsTraced, IsWaiting, IsDone, IsRound, NoneLowered, AreFallen, IsLatest, IsCycleOf}

-- from one round to the next
begun_at : (labels : List Label) (p : ℕ) → p < length labels → label_at (map begun labels) p ≡ begun (label_at labels p)
begun_at labels p p_in = get_or-map begun labels p initial_label initial_label p_in

pub none_lowered_next : (points : ℕ) (literals : List Literal) (labels : List Label) (round : ℕ) → IsRound points literals labels round (length literals) → NoneLowered points (map begun labels) (round + 1)
none_lowered_next points literals labels round r p h =
    let count = r.count in
    let t = r.traced p h in
    omega (arith, ap (λ (s : Label). s.round) (begun_at labels p (omega arith)))

traced_next : (points : ℕ) (literals : List Literal) (labels : List Label) (round p : ℕ) → length labels ≡ points → IsTraced points literals labels round p → p < points → IsTraced points literals (map begun labels) (round + 1) p
traced_next points literals labels round p count t h =
    let at = begun_at labels p (omega arith) in
    let v = ap (λ (s : Label). s.value) at in
    let l = ap (λ (s : Label). s.last) at in
    let r = ap (λ (s : Label). s.round) at in
    let b = ap (λ (s : Label). s.by) at in
    record {
      past = omega arith;
      at_most_0 = omega (arith, ints);
      low = omega (arith, ints);
      last_low = omega (arith, ints);
      last_at_most_0 = omega (arith, ints);
      kept = λ _. v ∙ sym l;
      lowered = λ g. absurd (omega arith);
      given = λ g. subst (λ (m : Literal). Contains literals m) (sym b) (t.given (omega arith));
      fallen = λ g. subst (λ (m : Literal). IsFallen points (map begun labels) p m) (sym b) (
          let f = t.fallen (omega arith) in
          let at_y = begun_at labels (by_of labels p).y (omega (arith, f.y_in)) in
          let vy = ap (λ (s : Label). s.value) at_y in
          let ry = ap (λ (s : Label). s.round) at_y in
          let fv = f.falls in
          let near = f.near in
          record {
            x_is = f.x_is;
            y_in = f.y_in;
            falls = omega (arith, ints);
            tight = λ k. let g2 = f.tight (omega (arith, ints)) in omega arith;
            near = omega arith;
          });
    }

-- all the literals have been looked at
all_done : (points : ℕ) (literals : List Literal) (labels : List Label) (round : ℕ) → IsRound points literals labels round (length literals) → All (IsDone labels) literals
all_done points literals labels round r = subst (λ (ls : List Literal). All (IsDone labels) ls) (take_all (length literals) literals (omega arith)) r.done

waiting_next : (points : ℕ) (literals : List Literal) (labels : List Label) (round : ℕ) (m : Literal) → IsOver points m → IsRound points literals labels round (length literals) → IsDone labels m → IsWaiting (map begun labels) (round + 1) m
waiting_next points literals labels round m over r done below =
    let count = r.count in
    let x_in = over.x_in in
    let y_in = over.y_in in
    let at_x = begun_at labels m.x (omega arith) in
    let at_y = begun_at labels m.y (omega arith) in
    let lx = ap (λ (s : Label). s.last) at_x in
    let ly = ap (λ (s : Label). s.last) at_y in
    let ry = ap (λ (s : Label). s.round) at_y in
    let ty = r.traced m.y over.y_in in
    elim (cases_lt (round_of labels m.y) round) [
      | inl lt ↦ let e = ty.kept lt in absurd (omega (arith, ints))
      | inr ge ↦ omega arith
    ]

pub ready_next : (points : ℕ) (literals : List Literal) (labels : List Label) (round : ℕ) → All (IsOver points) literals → IsRound points literals labels round (length literals) → IsRound points literals (map begun labels) (round + 1) 0
ready_next points literals labels round over r = record {
  count = length-map labels begun ∙ r.count;
  traced = λ p h. traced_next points literals labels round p r.count (r.traced p h) h;
  above = λ p h values schedule.
      let count = r.count in
      let v = ap (λ (s : Label). s.value) (begun_at labels p (omega arith)) in
      let u = r.above p h values schedule in omega (arith, ints);
  waiting = λ k d h. waiting_next points literals labels round (get_or literals k d) (over k d h) r (all_done points literals labels round r k d h);
  done = All-nil (IsDone (map begun labels));
}

-- after a round that lowered nothing
value_kept : (labels : List Label) (p : ℕ) → p < length labels → value_at (map label_value labels) p ≡ value_of labels p
value_kept labels p p_in = get_or-map label_value labels p initial_label (pos 0) p_in

pub greatest_found : (points : ℕ) (literals : List Literal) (labels : List Label) (round : ℕ) → All (IsOver points) literals → IsRound points literals labels round (length literals) → NoneLowered points labels round → IsGreatestSchedule points literals (map label_value labels)
greatest_found points literals labels round over r none_lowered =
    let count = r.count in
    record {
      schedule = record {
        count = length-map labels label_value ∙ r.count;
        at_most_0 = λ p h. let e = value_kept labels p (omega arith) in let t = r.traced p h in omega (arith, ints);
        holds = λ k d h. holds_at (get_or literals k d) (over k d h) (all_done points literals labels round r k d h);
      };
      greatest = λ others schedule p h.
          let e = value_kept labels p (omega arith) in
          let u = r.above p h others schedule in omega (arith, ints);
    }
  where
    holds_at : (m : Literal) → IsOver points m → IsDone labels m → Holds (map label_value labels) m
    holds_at m o done =
        let count = r.count in
        let x_in = o.x_in in
        let y_in = o.y_in in
        let ex = value_kept labels m.x (omega arith) in
        let ey = value_kept labels m.y (omega arith) in
        let ty = r.traced m.y o.y_in in
        let k = ty.kept (none_lowered m.y o.y_in) in
        omega (arith, ints)

pub in_range : (points : ℕ) (literals : List Literal) (labels : List Label) (round : ℕ) → round ≤ points_limit → IsRound points literals labels round (length literals) → NoneLowered points labels round → All IsInRange (map label_value labels)
in_range points literals labels round few r none_lowered k d h =
    let count = r.count in
    let same = length-map labels label_value in
    let p_in : k < points = omega arith in
    let e : get_or (map label_value labels) k d ≡ value_of labels k = get_or-map label_value labels k initial_label d (omega arith) in
    let t = r.traced k p_in in
    let f = none_lowered k p_in in
    record { low = omega (arith, ints); high = omega (arith, ints) }

pub given_latest : (points : ℕ) (literals : List Literal) (labels : List Label) (round : ℕ) (l : Literal) → IsRound points literals labels round (length literals) → IsLatest labels l → Contains literals l
given_latest points literals labels round l r latest =
    subst (λ (m : Literal). Contains literals m) latest.by_is ((r.traced l.x (omega (arith, r.count, latest.x_in))).given latest.moved)

-- the answer, where the rounds spoke of n points
pub schedule_answer : (points n : ℕ) (literals : List Literal) (labels : List Label) (round : ℕ) (values : List ℤ) → n ≡ points → round ≤ points_limit → All (IsOver points) literals → IsRound n literals labels round (length literals) → NoneLowered n labels round → values ≡ map label_value labels → IsBest points literals values
schedule_answer points n literals labels round values e few over r none_lowered same =
    let r' : IsRound points literals labels round (length literals) = subst (λ (k : ℕ). IsRound k literals labels round (length literals)) e r in
    let none_lowered' : NoneLowered points labels round = subst (λ (k : ℕ). NoneLowered k labels round) e none_lowered in
    rw same (record { greatest = greatest_found points literals labels round over r' none_lowered'; range = in_range points literals labels round few r' none_lowered' })

pub cycle_answer : (n : ℕ) (literals : List Literal) (labels : List Label) (round : ℕ) (cycle : List Literal) → IsRound n literals labels round (length literals) → IsCycleOf labels cycle → IsCycleAmong literals cycle
cycle_answer n literals labels round cycle r found = record {
  negative = found.negative;
  given = λ k d h. given_latest n literals labels round (get_or cycle k d) r (found.latest k d h);
}
