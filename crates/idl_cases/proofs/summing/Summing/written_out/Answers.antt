use Rattle.std.proofs.Common.{rules, arith, sym, subst, ◌≡◌, ◌<◌, ◌≤◌, List, length}
use Rattle.idl_cases.specs.Guarded.{CaseValue}
use Rattle.idl_cases.specs.code.Bounded.{AreLinear, AreOver}
use Rattle.idl_cases.specs.code.CasePlaces.{signed_lists}
use Rattle.idl_cases.specs.code.CaseSums.{Summed}
use Rattle.idl_cases.proofs.CaseBounds.{bounded_each, over_each}
use Rattle.idl_cases.proofs.SumSteps.{written_limited, written_linear, written_many}
use Rattle.idl_cases.proofs.summing.Summing.written_out.Goals as goal

pub invariant_of-tree : goal.invariant_of-tree
invariant_of-tree c =
    let old : Summed = record { start = c.self.inside.start; choices = signed_lists c.self.inside.choices.items } in
    let items = c.loop-place.cases.items in
    let place = c.loop-place.place in
    let past : c.self.inside.count ≤ place = omega (arith, c.loop-place-test.false) in
    let counted : c.len.result ≡ length items = search rules in
    let linear = written_linear old c.args.self.now c.self.inside.count c.self.invariant c.self.view_is items place c.requires.few past c.loop-place.invariant.same c.loop-place.invariant.limited in
    record {
      fewer = tt;
      counted = counted;
      many = written_many old c.args.self.now c.self.inside.count c.self.invariant c.self.view_is items place c.requires.few past c.loop-place.invariant.same c.loop-place.invariant.limited c.requires.some;
      limits = c.limits.ensures.limits;
      each = bounded_each c.limits.result items c.limits.ensures.constant c.limits.ensures.coefficient linear;
    }

pub invariant_of-result : goal.invariant_of-result
invariant_of-result c =
    let old : Summed = record { start = c.self.inside.start; choices = signed_lists c.self.inside.choices.items } in
    let items = c.loop-place.cases.items in
    let place = c.loop-place.place in
    let past : c.self.inside.count ≤ place = omega (arith, c.loop-place-test.false) in
    let linear = written_linear old c.args.self.now c.self.inside.count c.self.invariant c.self.view_is items place c.requires.few past c.loop-place.invariant.same c.loop-place.invariant.limited in
    let many = written_many old c.args.self.now c.self.inside.count c.self.invariant c.self.view_is items place c.requires.few past c.loop-place.invariant.same c.loop-place.invariant.limited c.requires.some in
    subst (λ (cs : List CaseValue). (1 < length cs) × AreOver cs × AreLinear cs) (sym c.in_ok-choices.ensures) (many, over_each items linear, linear)

pub returns-clause-limited : goal.returns-clause-limited
returns-clause-limited c =
    let old : Summed = record { start = c.self.inside.start; choices = signed_lists c.self.inside.choices.items } in
    let items = c.loop-place.cases.items in
    let place = c.loop-place.place in
    let past : c.self.inside.count ≤ place = omega (arith, c.loop-place-test.false) in
    written_limited old c.args.self.now c.self.inside.count c.self.invariant c.self.view_is items place c.requires.few past c.loop-place.invariant.same c.loop-place.invariant.limited
