use Rattle.std.proofs.Common.{arith, sym, subst, ◌≡◌, ℤ, to_z, of_z}
use Rattle.std.specs.Int.{w128}
use Rattle.std.proofs.lemmas.Int.{ints}
use Rattle.job_shop.specs.Plans.{IsLeastPlan, start_in}
use Rattle.job_shop.specs.Tight.{IsTight}
use Rattle.job_shop.specs.code.Moving.{Timely, IsTimely, IsMoved}
use Rattle.job_shop.proofs.Passes.{moved_more, least_again, tight_now}
use Rattle.job_shop.proofs.tight.tightened.Goals as goal

pub returns-clause-least : goal.returns-clause-least
returns-clause-least c =
    let last = c.advance_all.new.self in
    let is : IsTimely last = subst IsTimely c.plan-2.view_is c.plan-2.invariant in
    let fits : to_z w128 (of_z w128 c.args.makespan) ≡ c.args.makespan = omega (arith, ints, c.ranges.makespan.sfits) in
    let before = subst (λ (m : ℤ). IsMoved (record { shop = c.args.jobs.now; starts = c.args.starts.now; latest = m }) c.loop.plan) fits c.loop.invariant.moved in
    let moved = moved_more (record { shop = c.args.jobs.now; starts = c.args.starts.now; latest = c.args.makespan }) c.loop.plan last before c.loop-test.ensures.moved in
    subst (λ (q : Timely). IsLeastPlan c.args.jobs.now q.starts c.args.makespan) (sym c.plan-2.view_is)
    (least_again c.args.jobs.now c.args.starts.now c.args.makespan c.requires last is moved)

pub returns-clause-tight : goal.returns-clause-tight
returns-clause-tight c =
    let last = c.advance_all.new.self in
    let is : IsTimely last = subst IsTimely c.plan-2.view_is c.plan-2.invariant in
    let fits : to_z w128 (of_z w128 c.args.makespan) ≡ c.args.makespan = omega (arith, ints, c.ranges.makespan.sfits) in
    let before = subst (λ (m : ℤ). IsMoved (record { shop = c.args.jobs.now; starts = c.args.starts.now; latest = m }) c.loop.plan) fits c.loop.invariant.moved in
    let moved = moved_more (record { shop = c.args.jobs.now; starts = c.args.starts.now; latest = c.args.makespan }) c.loop.plan last before c.loop-test.ensures.moved in
    subst (λ (q : Timely). IsTight c.args.jobs.now (start_in c.args.jobs.now q.starts)) (sym c.plan-2.view_is)
    (tight_now c.args.jobs.now c.args.starts.now c.args.makespan c.requires last is moved c.loop.plan c.loop-test.ensures.moved.shop c.loop-test.ensures.tight.0 c.loop-test.ensures.tight.1)
