use Rattle.std.proofs.Common.{arith, ap, refl, sym, subst, ◌∙◌, ◌≡◌, ℕ, ◌+◌, ◌*◌, ◌<◌, set, ℤ, ◌≤ℤ◌, ◌<ℤ◌, to_z, of_z}
use Rattle.std.specs.Int.{w128}
use Rattle.std.proofs.lemmas.Int.{ints}
use Rattle.job_shop.specs.code.Moving.{Timely, IsTimely, IsMoved, start_of, total}
use Rattle.job_shop.proofs.Moving.{reached_start, moved_timely, moved_is, moved_less}
use Rattle.job_shop.proofs.tight.Timely.advance.Goals as goal

pub returns-then-time-start-clause-tight : goal.returns-then-time-start-clause-tight
returns-then-time-start-clause-tight c =
    let tested : to_z w128 (of_z w128 c.start.result) ≤ℤ to_z w128 (of_z w128 c.earliest-time.result) = grind (arith, ints) in
    let le : start_of c.args.self.now c.args.job c.args.place ≤ℤ c.earliest-time.result = omega (arith, ints, tested, c.start.ensures.start, c.start.type_inv, c.earliest-time.type_inv) in
    (refl, reached_start c.args.self.now c.args.job c.args.place c.earliest-time.result c.earliest-time.ensures le)

pub invariant_of-self : goal.invariant_of-self
invariant_of-self c =
    let p = c.args.self.now in
    let time = c.earliest-time.result in
    let z = to_z w128 (of_z w128 c.earliest-time.result) in
    let value : z ≡ time = omega (arith, ints, c.earliest-time.type_inv) in
    let place = c.args.job * c.machines.result + c.args.place in
    let at : place ≡ c.args.job * p.shop.machines + c.args.place = ap (λ (n : ℕ). c.args.job * n + c.args.place) (c.machines.ensures.count ∙ ap (λ (q : Timely). q.shop.machines) c.self.view_is) in
    let tested : to_z w128 (of_z w128 c.earliest-time.result) <ℤ to_z w128 (of_z w128 c.start.result) = grind (arith, ints) in
    let less : time <ℤ start_of p c.args.job c.args.place = omega (arith, ints, tested, c.start.ensures.start, c.start.type_inv, c.earliest-time.type_inv) in
    subst (λ (q : Timely). IsTimely (record { shop = q.shop; starts = set q.starts place z; latest = q.latest })) (sym c.self.view_is) (moved_timely p c.args.job c.args.place c.timely.ensures c.requires time z place c.earliest-time.ensures less at value)

pub returns-clause-moved : goal.returns-clause-moved
returns-clause-moved c =
    let p = c.args.self.now in
    let time = c.earliest-time.result in
    let z = to_z w128 (of_z w128 c.earliest-time.result) in
    let value : z ≡ time = omega (arith, ints, c.earliest-time.type_inv) in
    let place = c.args.job * c.machines.result + c.args.place in
    let at : place ≡ c.args.job * p.shop.machines + c.args.place = ap (λ (n : ℕ). c.args.job * n + c.args.place) (c.machines.ensures.count ∙ ap (λ (q : Timely). q.shop.machines) c.self.view_is) in
    let tested : to_z w128 (of_z w128 c.earliest-time.result) <ℤ to_z w128 (of_z w128 c.start.result) = grind (arith, ints) in
    let less : time <ℤ start_of p c.args.job c.args.place = omega (arith, ints, tested, c.start.ensures.start, c.start.type_inv, c.earliest-time.type_inv) in
    subst (λ (q : Timely). IsMoved c.args.self.now (record { shop = q.shop; starts = set q.starts place z; latest = q.latest })) (sym c.self.view_is) (moved_is p c.args.job c.args.place c.timely.ensures c.requires time z place c.earliest-time.ensures less at value)

pub returns-clause-tight : goal.returns-clause-tight
returns-clause-tight c =
    let p = c.args.self.now in
    let time = c.earliest-time.result in
    let z = to_z w128 (of_z w128 c.earliest-time.result) in
    let value : z ≡ time = omega (arith, ints, c.earliest-time.type_inv) in
    let place = c.args.job * c.machines.result + c.args.place in
    let at : place ≡ c.args.job * p.shop.machines + c.args.place = ap (λ (n : ℕ). c.args.job * n + c.args.place) (c.machines.ensures.count ∙ ap (λ (q : Timely). q.shop.machines) c.self.view_is) in
    let tested : to_z w128 (of_z w128 c.earliest-time.result) <ℤ to_z w128 (of_z w128 c.start.result) = grind (arith, ints) in
    let less : time <ℤ start_of p c.args.job c.args.place = omega (arith, ints, tested, c.start.ensures.start, c.start.type_inv, c.earliest-time.type_inv) in
    subst (λ (q : Timely). total (set q.starts place z) < total c.args.self.now.starts) (sym c.self.view_is) (moved_less p c.args.job c.args.place c.timely.ensures c.requires time z place c.earliest-time.ensures less at value)
