use Rattle.std.proofs.Common.{arith, ap, sym, subst, ◌≡◌, ◌+◌, ◌<◌, ℤ, to_z, of_z}
use Rattle.std.specs.Int.{w128}
use Rattle.std.proofs.lemmas.Int.{ints}
use Rattle.job_shop.specs.code.Moving.{Timely}
use Rattle.job_shop.proofs.Moving.{IsLatestBelow, one_end}
use Rattle.job_shop.proofs.tight.Timely.latest_end.Goals as goal

pub loop-i-preserved : goal.loop-i-preserved
loop-i-preserved c =
    let e = c.later_end-latest.ensures in
    let value : to_z w128 (of_z w128 c.later_end-latest.result) ≡ c.later_end-latest.result = omega (arith, ints, c.later_end-latest.type_inv) in
    let shop = ap (λ (p : Timely). p.shop.machines) c.self.view_is in
    let within : c.loop-i.i < c.args.self.now.shop.machines = omega (arith, c.loop-i-test.true, c.machines-i-end.ensures.count, shop) in
    subst (λ (z : ℤ). IsLatestBelow c.args.self.now c.args.job c.args.place c.args.other (c.loop-i.i + 1) (to_z w128 (of_z w128 c.args.time)) z) (sym value)
    (one_end c.args.self.now c.args.job c.args.place c.args.other c.loop-i.i _ _ c.later_end-latest.result c.loop-i.invariant within e.later e.covers e.one)
