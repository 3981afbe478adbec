use Rattle.std.proofs.Common.{arith, rules, ap, ◌∙◌, ◌≡◌, Some, Ok, ℤ, pos, neg_ℤ, ◌-ℤ◌, w64, to_z, of_z}
use Rattle.std.proofs.lemmas.Int.{ints}
use Rattle.idl_cases.specs.Guarded.{plain_linear}
use Rattle.idl_apply.proofs.ComparisonNodes.{difference_low, difference_high}
use Rattle.smt_script.proofs.Asking.{objective_found}
use Rattle.smt_script.proofs.objective.objective_of.Goals as goal

pub overflow_sub-result : goal.overflow_sub-result
overflow_sub-result c =
    let d = c.in_ok-difference-in-Some.difference in
    let low = difference_low _ _ d c.in_ok-difference-in-Some.ensures.ok in
    let high = difference_high _ _ d c.in_ok-difference-in-Some.ensures.ok in
    omega (arith, ints, low, high)

pub returns-in_ok-difference-in-Some : goal.returns-in_ok-difference-in-Some
returns-in_ok-difference-in-Some c =
    let d = c.in_ok-difference-in-Some.difference in
    let low = difference_low _ _ d c.in_ok-difference-in-Some.ensures.ok in
    let high = difference_high _ _ d c.in_ok-difference-in-Some.ensures.ok in
    let k : neg_ℤ d.n ≡ to_z w64 (of_z w64 (pos 0 -ℤ to_z w64 (of_z w64 d.n))) = omega (arith, ints, low, high) in
    let found : Some c.in-Some.linear.now ≡ plain_linear c.args.cases.now = search (rules, c.in-Some.ensures) in
    objective_found (plain_linear c.args.cases.now) c.in-Some.linear.now c.number.result found c.number.ensures d c.in_ok-difference-in-Some.ensures.ok
    ∙ ap (λ (z : ℤ). Ok (record { x = d.x; y = d.y; k = z })) k
