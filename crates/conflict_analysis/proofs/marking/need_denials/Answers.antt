use Rattle.std.proofs.Common.{arith, ◌≡◌, true, false, subst, sym, ◌∙◌}
use Rattle.conflict_analysis.specs.code.Trails.{Stands, StandsUsed}
use Rattle.conflict_analysis.proofs.Marks.{marked_twice, denials_more, denials_past}
use Rattle.conflict_analysis.proofs.Passing.{waiting_twice}
use Rattle.conflict_analysis.proofs.marking.need_denials.Goals as goal
use Rattle.conflict_analysis.proofs.marking.need_denials.Goals.{then-q-place+in_ok-stands+else-not-stands, else-q-place}

pub loop-q-preserved : goal.loop-q-preserved
loop-q-preserved g c = elim c.if-q-place.branch [
  | then-q-place+in_ok-stands+else-not-stands w ↦ rw w.marks-is (let after = w.in_ok-stands.ensures in record {
    more = marked_twice c.args.below _ _ _ c.loop-q.invariant.more after.more;
    waiting = waiting_twice _ _ _ _ _ _ c.loop-q.invariant.waiting after.waiting;
    passed = after.passed ∙ c.loop-q.invariant.passed;
    used = denials_more c.args.graph.now.trail c.args.marks.now.roles.items c.loop-q.marks.roles.items w.need.new.marks.roles.items c.args.below c.args.clause.now c.args.place c.loop-q.q c.loop-q.invariant.more c.loop-q.invariant.used after.more (subst (StandsUsed c.args.graph.now.trail w.need.new.marks.roles.items c.args.below) w.negate.ensures (after.used w.if-not-stands.false));
  })
  | else-q-place w ↦ rw w.marks-is (record {
    more = c.loop-q.invariant.more;
    waiting = c.loop-q.invariant.waiting;
    passed = c.loop-q.invariant.passed;
    used = denials_past c.args.graph.now.trail c.loop-q.marks.roles.items c.args.below c.args.clause.now c.args.place c.loop-q.q w.if-q-place.false c.loop-q.invariant.used;
  })
]

pub returns-then-not-stands-clause-waiting : goal.returns-then-not-stands-clause-waiting
returns-then-not-stands-clause-waiting g c = waiting_twice _ _ _ _ _ _ c.loop-q.invariant.waiting c.in_ok-stands.ensures.waiting

pub returns-then-not-stands-clause-stand : goal.returns-then-not-stands-clause-stand
returns-then-not-stands-clause-stand g c all =
    let there = c.in_ok-stands.ensures.stands (subst (Stands c.args.graph.now.trail c.args.below) (sym c.negate.ensures) (all c.loop-q.q (omega (arith, c.loop-q-test.true)) c.if-q-place.true)) in
    let no : true ≡ false = sym there ∙ c.if-not-stands.true in absurd cc
