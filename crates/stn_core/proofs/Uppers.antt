-- Lowering by a literal that fails keeps values above every schedule.
use Rattle.std.proofs.Common.{arith, ap, subst, ◌∙◌, inl, inr, ◌≡◌, ◌≢◌, ℕ, ◌<◌, ◌≤◌, List, length, replicate, set, All, Contains, ℤ, pos, neg_ℤ, ◌+ℤ◌, ◌≤ℤ◌, ◌<ℤ◌}
use Rattle.std.proofs.lemmas.Int.{ints}
use Rattle.std.proofs.lemmas.Bool.{cases_eq, cases_lt}
use Rattle.std.proofs.lemmas.List.{get_or-set_same, get_or-set_other, length-set, get_or-replicate, length-replicate, get_or_past, get_or_default}
use Rattle.std.proofs.lemmas.List.Elements.{Contains-get_or}
use Rattle.stn_core.specs.declared.literal.Literal.{Literal}
use Rattle.stn_core.specs.Answer.{IsBest}
use Rattle.stn_core.specs.Limits.{points_limit, value_limit}
use Rattle.stn_core.specs.Literal.{value_at, literal_at, Holds, IsOver}
use Rattle.stn_core.specs.Schedule.{IsGreatestSchedule}
use Rattle.stn_core.proofs.Ranges.{in_range_of_greatest}
use Rattle.stn_core.specs.code.Uppers.{IsUpper}

-- one lowering keeps the values above every schedule
pub upper_next : (points : ℕ) (ls : List Literal) (values : List ℤ) (k : ℕ) (v : ℤ) → k < length ls → All (IsOver points) ls → IsUpper points ls values
    → v ≡ value_at values (literal_at ls k).y +ℤ (literal_at ls k).c → v <ℤ value_at values (literal_at ls k).x → neg_ℤ (pos (value_limit)) ≤ℤ v
    → IsUpper points ls (set values (literal_at ls k).x v)
upper_next points ls values k v k_in over u is bad low =
    let l = literal_at ls k in
    let given : Contains ls l = Contains-get_or ls k (record { x = 0; y = 0; c = pos 0 }) k_in in
    let o : IsOver points l = over k (record { x = 0; y = 0; c = pos 0 }) k_in in
    let count = u.count in
    let x_in = o.x_in in
    let x_here : l.x < length values = omega (arith, count, x_in) in
    let at_x : value_at (set values l.x v) l.x ≡ v = get_or-set_same values l.x v (pos 0) x_here in
    let at_other : (p : ℕ) → p ≢ l.x → value_at (set values l.x v) p ≡ value_at values p = λ p ne. get_or-set_other values l.x p v (pos 0) ne in
    record {
      count = length-set _ _ _ ∙ u.count;
      low = λ p. elim (cases_eq p l.x) [
        | inl e ↦ let f = ap (value_at (set values l.x v)) e ∙ at_x in omega (arith, ints, f, low)
        | inr ne ↦ let f = at_other p ne in let g = u.low p in omega (arith, ints, f, g)
      ];
      high = λ p. elim (cases_eq p l.x) [
        | inl e ↦ let f = ap (value_at (set values l.x v)) e ∙ at_x in let g = u.high l.x in omega (arith, ints, f, g, bad)
        | inr ne ↦ let f = at_other p ne in let g = u.high p in omega (arith, ints, f, g)
      ];
      bounds = λ others sched p p_in. elim (cases_eq p l.x) [
        | inl e ↦
            let f = ap (value_at (set values l.x v)) e ∙ at_x in
            let g = ap (value_at others) e in
            let h : Holds others l = subst (Holds others) given.2 (sched.holds given.0 l given.1) in
            let b = u.bounds others sched l.y o.y_in in
            omega (arith, ints, f, g, h, b, is)
        | inr ne ↦ let f = at_other p ne in let b = u.bounds others sched p p_in in omega (arith, ints, f, b)
      ];
    }

-- all values 0
pub upper_first : (points : ℕ) (ls : List Literal) → IsUpper points ls (replicate points (pos 0))
upper_first points ls = record {
  count = length-replicate points (pos 0);
  low = λ p. let z = zeros points p in omega (arith, ints, z);
  high = λ p. let z = zeros points p in omega (arith, ints, z);
  bounds = λ others sched p p_in. let z = zeros points p in let a = sched.at_most_0 p p_in in omega (arith, ints, z, a);
}
  where
    zeros : (n p : ℕ) → value_at (replicate n (pos 0)) p ≡ pos 0
    zeros n p = elim (cases_lt p n) [
      | inl lt ↦ get_or-replicate n p (pos 0) (pos 0) lt
      | inr ge ↦ let c : length (replicate n (pos 0)) ≡ n = length-replicate n (pos 0) in get_or_past (replicate n (pos 0)) p (pos 0) (omega (arith, ge, c))
    ]

-- where all literals hold, they are the greatest schedule
pub best : (points : ℕ) (ls : List Literal) (values : List ℤ) → points ≤ points_limit → All (IsOver points) ls → IsUpper points ls values → ((k : ℕ) → k < length ls → Holds values (literal_at ls k)) → IsBest points ls values
best points ls values few over u holds =
    let g : IsGreatestSchedule points ls values = record {
      schedule = record { count = u.count; at_most_0 = λ p _. u.high p; holds = λ k d lt. subst (Holds values) (get_or_default ls k (record { x = 0; y = 0; c = pos 0 }) d lt) (holds k lt) };
      greatest = u.bounds;
    } in
    record { greatest = g; range = in_range_of_greatest points ls values few over g }
