-- What the definitions say of one another.
use Rattle.std.proofs.Common.{arith, ap, inl, inr, ◌⊎◌, ◌≡◌, ℕ, ◌<◌, List, [], ◌∷◌, All, ℤ, pos, ◌+ℤ◌, ◌-ℤ◌, ◌≤ℤ◌, ◌<ℤ◌}
use Rattle.std.proofs.lemmas.Int.{ints, by_lt_z}
use Rattle.std.proofs.lemmas.List.{ext_get_or}
use Rattle.std.proofs.lemmas.List.Elements.{All-head, All-tail}
use Rattle.stn_core.specs.declared.literal.Literal.{Literal}
use Rattle.stn_core.specs.Literal.{value_at, Holds, IsOver, negation_of}
use Rattle.stn_core.specs.Cycle.{Leads, weight_of, IsNegativeCycle}
use Rattle.stn_core.specs.Schedule.{IsGreatestSchedule}

-- a literal and its negation do not both hold
pub not_both : (values : List ℤ) (l : Literal) → Holds values l → Holds values (negation_of l) → ⊥
not_both values l h k = omega (arith, ints)

-- and one of them does
pub either : (values : List ℤ) (l : Literal) → Holds values l ⊎ Holds values (negation_of l)
either values l = by_lt_z l.c (value_at values l.x -ℤ value_at values l.y) (λ (lt : l.c <ℤ (value_at values l.x -ℤ value_at values l.y)). inr (omega (arith, ints))) (λ (ge : (value_at values l.x -ℤ value_at values l.y) ≤ℤ l.c). inl ge)

pub denied : (values : List ℤ) (l : Literal) → (¬ Holds values l) → Holds values (negation_of l)
denied values l f = elim (either values l) [ inl h ↦ absurd (f h) | inr k ↦ k ]

-- along literals that hold, the values differ by at most the weight
pub differ : (values : List ℤ) (from : ℕ) (ls : List Literal) (to : ℕ) → Leads from ls to → All (Holds values) ls → value_at values from ≤ℤ (value_at values to +ℤ weight_of ls)
differ values from [] to h all = let e = ap (λ (k : ℕ). value_at values k) h in omega (arith, ints)
differ values from (l ∷ ls) to h all =
    let e = ap (λ (k : ℕ). value_at values k) h.0 in
    let first : Holds values l = All-head (Holds values) l ls all in
    let rest = differ values l.y ls to h.1 (All-tail (Holds values) l ls all) in
    omega (arith, ints)

-- the literals of a negative cycle do not all hold
pub no_values : (values : List ℤ) (cycle : List Literal) → IsNegativeCycle cycle → All (Holds values) cycle → ⊥
no_values values cycle n all =
    let point = n.closed.0 in
    let d = differ values n.closed.0 cycle n.closed.0 n.closed.1 all in
    let w = n.negative in
    omega (arith, ints)

-- there is one greatest schedule
pub one_greatest : (points : ℕ) (literals : List Literal) (u v : List ℤ) → IsGreatestSchedule points literals u → IsGreatestSchedule points literals v → u ≡ v
one_greatest points literals u v g h =
    let cu = g.schedule.count in
    let cv = h.schedule.count in
    ext_get_or (pos 0) u v (omega arith) (λ p p_in.
    let lt : p < points = omega arith in
    let a = g.greatest v h.schedule p lt in
    let b = h.greatest u g.schedule p lt in
    omega (arith, ints))

-- the negation is within the same limits
pub IsOver-negation_of : (points : ℕ) (l : Literal) → IsOver points l → IsOver points (negation_of l)
IsOver-negation_of points l o =
    let low = o.low in
    let high = o.high in
    record { x_in = o.y_in; y_in = o.x_in; low = omega (arith, ints); high = omega (arith, ints) }
