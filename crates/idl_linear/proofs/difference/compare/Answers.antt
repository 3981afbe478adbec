use Rattle.std.proofs.Common.{ap, sym, ◌∙◌, arith, ◌≡◌, ℤ, ◌-ℤ◌, Ok, to_z, of_z}
use Rattle.std.specs.Int.{w128}
use Rattle.std.proofs.lemmas.Int.{ints}
use Rattle.idl_linear.proofs.Outcomes.{not_a_difference, accepted, too_large, number_fits}
use Rattle.idl_linear.proofs.difference.compare.Goals as goal

pub returns-in_default-clause-refused : goal.returns-in_default-clause-refused
returns-in_default-clause-refused c = not_a_difference c.args.a.now c.args.b.now (sym c.in_default.ensures.ends)

pub returns-in-Some-within-clause-ok : goal.returns-in-Some-within-clause-ok
returns-in-Some-within-clause-ok c =
    let number : to_z w128 (of_z w128 (to_z w128 (of_z w128 c.from.result) -ℤ to_z w128 (of_z w128 c.from-2.result))) ≡ c.args.b.now.constant -ℤ c.args.a.now.constant = omega (arith, ints) in
    accepted c.args.a.now c.args.b.now _ _ _ (sym c.in-Some.ensures.ends) c.in-Some-within.ensures number
    ∙ ap (λ (n : ℤ). Ok (record { x = c.in-Some.ends.x; y = c.in-Some.ends.y; n = n })) (number_fits (to_z w128 (of_z w128 (to_z w128 (of_z w128 c.from.result) -ℤ to_z w128 (of_z w128 c.from-2.result)))) _ c.in-Some-within.ensures)

pub returns-in-None-clause-refused : goal.returns-in-None-clause-refused
returns-in-None-clause-refused c =
    let number : to_z w128 (of_z w128 (to_z w128 (of_z w128 c.from.result) -ℤ to_z w128 (of_z w128 c.from-2.result))) ≡ c.args.b.now.constant -ℤ c.args.a.now.constant = omega (arith, ints) in
    too_large c.args.a.now c.args.b.now _ _ (sym c.in-Some.ensures.ends) c.in-None.ensures number
