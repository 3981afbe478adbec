use Rattle.std.proofs.Common.{arith, ap, ◌≡◌, pos, ◌+ℤ◌, ◌≤ℤ◌, to_z, of_z}
use Rattle.std.specs.Int.{w128}
use Rattle.std.proofs.lemmas.Int.{ints}
use Rattle.job_shop.specs.declared.shop.Operation.{Operation}
use Rattle.job_shop.specs.Shops.{duration}
use Rattle.job_shop.specs.code.Moving.{Timely, start_of}
use Rattle.job_shop.proofs.tight.Timely.end.Goals as goal

pub overflow_add-result : goal.overflow_add-result
overflow_add-result c =
    let whole : (start_of c.args.self.now c.args.job c.args.place +ℤ pos (duration c.args.self.now.shop c.args.job c.args.place)) ≤ℤ c.args.self.now.latest = c.timely.ensures.ends c.args.job c.args.place c.requires in
    let near = c.timely.ensures.near in
    let long = ap (λ (o : Operation). o.duration) c.operation.ensures.operation in
    let shop = ap (λ (p : Timely). duration p.shop c.args.job c.args.place) c.self.view_is in
    let is = c.start.ensures.start in
    let low = c.start.ensures.low in
    let from = c.from.ensures in
    omega (arith, ints, whole, near, long, shop, is, low, from)

pub returns : goal.returns
returns c =
    let whole : (start_of c.args.self.now c.args.job c.args.place +ℤ pos (duration c.args.self.now.shop c.args.job c.args.place)) ≤ℤ c.args.self.now.latest = c.timely.ensures.ends c.args.job c.args.place c.requires in
    let near = c.timely.ensures.near in
    let long = ap (λ (o : Operation). o.duration) c.operation.ensures.operation in
    let shop = ap (λ (p : Timely). duration p.shop c.args.job c.args.place) c.self.view_is in
    let is = c.start.ensures.start in
    let low = c.start.ensures.low in
    let from = c.from.ensures in
    let sum : to_z w128 (of_z w128 (to_z w128 (of_z w128 c.start.result) +ℤ to_z w128 (of_z w128 c.from.result))) ≡ (start_of c.args.self.now c.args.job c.args.place +ℤ pos (duration c.args.self.now.shop c.args.job c.args.place)) =
    omega (arith, ints, whole, near, long, shop, is, low, from) in
    sum
