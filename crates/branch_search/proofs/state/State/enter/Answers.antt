use Rattle.std.proofs.Common.{arith, refl, ◌∙◌, subst, sym, All, Contains, List, get_or}
use Rattle.std.proofs.lemmas.List.Elements.{Contains-get_or}
use Rattle.stn_core.specs.declared.literal.Literal.{Literal}
use Rattle.stn_core.specs.Literal.{IsOver}
use Rattle.conflict_analysis.specs.code.Trails.{no_literal}
use Rattle.branch_search.proofs.States.{plain_pushed, plain_same}
use Rattle.branch_search.proofs.Splits.{quiet_search}
use Rattle.branch_search.proofs.Proposals.{given_pushed, net_taken, same_parts}
use Rattle.branch_search.proofs.state.State.enter.Goals as goal

pub add_to_net-requires-clause-state : goal.add_to_net-requires-clause-state
add_to_net-requires-clause-state g c =
    let q = c.args.task.now in
    let cube = c.cube-cube.result.now in
    let e = c.cube-cube.ensures in
    let i = c.literals.l-index in
    let literals = g.N.Net.literals_of c.literals.net in
    same_parts q c.literals.self.own.items c.push.new.self.own.items c.push.new.self.entries.items c.literals.self.levels.items
    c.push.new.self.levels.items literals c.in_ok-push.ensures.own c.in_ok-push.ensures.levels
    (given_pushed q c.literals.self.own.items c.literals.self.entries.items c.push.new.self.entries.items
    c.literals.self.levels.items literals _ _ c.literals.invariant.state
    (subst (λ (ls : List Literal). Contains ls (get_or cube i no_literal)) e (Contains-get_or cube i no_literal (omega (arith, c.literals-test.true))))
    (subst (All (IsOver q.problem.points)) (sym e) c.requires.over i no_literal (omega (arith, c.literals-test.true)))
    c.in_ok-push.ensures.entries)

pub literals-preserved : goal.literals-preserved
literals-preserved g c =
    let before = c.literals.invariant in
    let after = c.in_ok-conflict.ensures in
    record {
      points = after.points ∙ before.points;
      levels = c.in_ok-push.ensures.levels ∙ before.levels;
      state = quiet_search c.args.task.now _ _ _ _ c.in_ok-conflict.field-0 after.after c.in_default.not-Some;
      plain = plain_pushed _ _ _ c.in_ok-push.ensures.entries before.plain tt;
      literals = net_taken c.literals.self.entries.items c.push.new.self.entries.items c.cube-cube.result.now _ _ c.len-place.result c.literals.l-index _ _ c.in_ok-conflict.field-0 after.added c.in_default.is c.in_ok-push.ensures.entries (omega (arith, c.len-place.ensures, c.literals.self.entries.ok.0)) refl (omega (arith, c.literals-test.true)) before.literals;
      counts = omega (arith, after.counts, before.counts);
    }

pub returns-in-Some-clause-plain : goal.returns-in-Some-clause-plain
returns-in-Some-clause-plain g c =
    plain_same _ _ c.in_ok-j.ensures.entries (plain_pushed _ _ _ c.in_ok-push.ensures.entries c.literals.invariant.plain tt)
