use Rattle.std.proofs.Common.{arith, ap, ◌≡◌, ◌≤ℤ◌, to_z, of_z}
use Rattle.std.specs.Int.{w128}
use Rattle.std.proofs.lemmas.Bool.Decides.{nat_tests}
use Rattle.std.proofs.lemmas.Int.{ints}
use Rattle.job_shop.specs.declared.shop.Operation.{Operation}
use Rattle.job_shop.specs.Shops.{machine_of}
use Rattle.job_shop.specs.Feasible.{end}
use Rattle.job_shop.specs.code.Moving.{Timely, start_of}
use Rattle.job_shop.proofs.Moving.{before_test, not_less}
use Rattle.job_shop.proofs.tight.Timely.is_before.Goals as goal

pub returns : goal.returns
returns c =
    let same : c.operation.result.machine ≡ c.operation-machine.result.machine = grind (arith, nat_tests) in
    let first = ap (λ (o : Operation). o.machine) c.operation.ensures.operation in
    let second = ap (λ (o : Operation). o.machine) c.operation-machine.ensures.operation in
    let first_shop = ap (λ (p : Timely). machine_of p.shop c.args.other c.args.i) c.self.view_is in
    let second_shop = ap (λ (p : Timely). machine_of p.shop c.args.job c.args.place) c.self.view_is in
    let on : machine_of c.args.self.now.shop c.args.other c.args.i ≡ machine_of c.args.self.now.shop c.args.job c.args.place = omega (arith, same, first, second, first_shop, second_shop) in
    let le : to_z w128 (of_z w128 c.end.result) ≤ℤ to_z w128 (of_z w128 c.start.result) = not_less _ _ c.if-end-start.false in
    let before : end c.args.self.now.shop (start_of c.args.self.now) c.args.other c.args.i ≤ℤ start_of c.args.self.now c.args.job c.args.place =
    omega (arith, ints, le, c.end.ensures, c.start.ensures.start, c.end.type_inv, c.start.type_inv) in
    before_test c.args.self.now.shop (start_of c.args.self.now) c.args.other c.args.i c.args.job c.args.place (to_z w128 (of_z w128 c.start-2.result)) (to_z w128 (of_z w128 c.end-2.result)) on before
    (omega (arith, ints, c.start-2.ensures.start, c.start-2.type_inv)) (omega (arith, ints, c.end-2.ensures, c.end-2.type_inv))
