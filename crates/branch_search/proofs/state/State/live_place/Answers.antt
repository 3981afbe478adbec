use Rattle.std.proofs.Common.{arith, refl, ◌∙◌, subst, ℕ}
use Rattle.stn_core.specs.Literal.{IsOver, literal_at}
use Rattle.conflict_analysis.specs.code.Trails.{no_literal}
use Rattle.branch_search.proofs.States.{plain_pushed}
use Rattle.branch_search.proofs.Splits.{live_turn, same_literals}
use Rattle.branch_search.proofs.state.State.live_place.Goals as goal

pub loop-q-preserved : goal.loop-q-preserved
loop-q-preserved g c =
    let net = g.N.Net in
    let q = c.args.task.now in
    let others = net.points_of c.loop-q.net in
    let before = net.literals_of c.loop-q.net in
    let after = net.literals_of c.add.new.self in
    let l = literal_at c.args.clause.now c.loop-q.q in
    let turn = live_turn q others c.loop-q.self.own.items c.deny.new.self.own.items c.loop-q.self.entries.items
    c.deny.new.self.entries.items c.loop-q.self.levels.items c.deny.new.self.levels.items before after l
    c.in_ok-add.field-0 c.in-Cycle.cycle c.args.clause.now c.loop-q.q c.loop-q.invariant.state
    c.in_ok-add.ensures.ok c.in-Cycle.is
    (subst (λ (n : ℕ). IsOver n l) c.requires.points
    (c.requires.over c.loop-q.q no_literal (omega (arith, c.loop-q-test.true))))
    c.in_ok-deny-in-Cycle.ensures.entries c.in_ok-deny-in-Cycle.ensures.own c.in_ok-deny-in-Cycle.ensures.levels refl
    c.loop-q.invariant.denied in
    let same = same_literals others before after l c.in_ok-add.field-0 c.in-Cycle.cycle c.in_ok-add.ensures.ok c.in-Cycle.is in
    record {
      points = c.in_ok-add.ensures.points ∙ c.loop-q.invariant.points;
      literals = same.0 ∙ c.loop-q.invariant.literals;
      levels = c.in_ok-deny-in-Cycle.ensures.levels ∙ c.loop-q.invariant.levels;
      own = c.in_ok-deny-in-Cycle.ensures.own ∙ c.loop-q.invariant.own;
      state = turn.0;
      plain = plain_pushed _ _ _ c.in_ok-deny-in-Cycle.ensures.entries c.loop-q.invariant.plain tt;
      denied = turn.1;
      counts = omega (arith, c.in_ok-add.ensures.counts, c.loop-q.invariant.counts);
    }
