use Rattle.std.proofs.Common.{arith, ap, sym, subst, ◌≡◌, ◌+◌, ◌<◌, length, ℤ, to_z, of_z}
use Rattle.std.specs.Int.{w128}
use Rattle.std.proofs.lemmas.Int.{ints}
use Rattle.job_shop.specs.code.Moving.{Timely}
use Rattle.job_shop.proofs.Moving.{IsEarliestBelow, one_more}
use Rattle.job_shop.proofs.tight.Timely.earliest.Goals as goal

pub loop-other-preserved : goal.loop-other-preserved
loop-other-preserved c =
    let e = c.latest_end-time.ensures in
    let value : to_z w128 (of_z w128 c.latest_end-time.result) ≡ c.latest_end-time.result = omega (arith, ints, c.latest_end-time.type_inv) in
    let shop = ap (λ (p : Timely). length p.shop.jobs) c.self.view_is in
    let within : c.loop-other.other < length c.args.self.now.shop.jobs = omega (arith, c.loop-other-test.true, c.count-other-end.ensures.count, shop) in
    subst (λ (z : ℤ). IsEarliestBelow c.args.self.now c.args.job c.args.place (c.loop-other.other + 1) z) (sym value)
    (one_more c.args.self.now c.args.job c.args.place c.loop-other.other _ c.latest_end-time.result c.loop-other.invariant within e.later e.each e.one)
