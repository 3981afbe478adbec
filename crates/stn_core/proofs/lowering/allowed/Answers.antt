use Rattle.std.proofs.Common.{rules, arith, refl, ◌≡◌, ◌+ℤ◌, length, w64, FitsSigned}
use Rattle.std.specs.Int.{w128}
use Rattle.std.proofs.lemmas.Int.{ints, to_z-of_z}
use Rattle.stn_core.specs.Literal.{IsOver, value_at, literal_at}
use Rattle.stn_core.proofs.lowering.allowed.Goals as goal
use Rattle.stn_core.proofs.lowering.allowed.Goals.{Start}

-- the sum is a value
sum_fits : (c : Start) → FitsSigned w128 (value_at c.args.values.now (literal_at c.args.literals.now c.args.place).y +ℤ (literal_at c.args.literals.now c.args.place).c)
sum_fits c =
    let l = literal_at c.args.literals.now c.args.place in
    let over : IsOver (length c.args.values.now) l = c.requires.over c.args.place _ c.requires.place in
    let low = c.requires.upper.low l.y in
    let high = c.requires.upper.high l.y in
    let least = over.low in
    let greatest = over.high in
    omega (arith, ints, low, high, least, greatest)

pub overflow_add-result : goal.overflow_add-result
overflow_add-result c =
    let l = literal_at c.args.literals.now c.args.place in
    let fits = sum_fits (goal.at.overflow_add-result c).Start in
    let value : FitsSigned w128 (value_at c.args.values.now l.y) = search rules in
    let bound : FitsSigned w64 l.c = search rules in
    let wide : FitsSigned w128 l.c = search rules in
    let from_is : c.from.result ≡ l.c = simp to_z-of_z at c.from.ensures in
    simp (to_z-of_z, from_is) fits

pub returns : goal.returns
returns c =
    let l = literal_at c.args.literals.now c.args.place in
    let fits = sum_fits (goal.at.returns c).Start in
    let value : FitsSigned w128 (value_at c.args.values.now l.y) = search rules in
    let bound : FitsSigned w64 l.c = search rules in
    let wide : FitsSigned w128 l.c = search rules in
    let from_is : c.from.result ≡ l.c = simp to_z-of_z at c.from.ensures in
    let same : value_at c.args.values.now l.y +ℤ l.c ≡ value_at c.args.values.now l.y +ℤ l.c = refl in
    simp (to_z-of_z, from_is) same
