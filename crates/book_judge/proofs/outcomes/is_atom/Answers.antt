use Rattle.std.proofs.Common.{IsTrue, false, refl}
use Rattle.book_judge.proofs.Judged.{atom_at, lacks_more, lacks_end}
use Rattle.book_judge.proofs.outcomes.is_atom.Goals as goal

pub returns-then-contains : goal.returns-then-contains
returns-then-contains c = (
  λ t. atom_at c.args.problem.now _ c.loop-clause.clause-index c.clause-item.result c.as_slice.result.now c.args.literal _
      c.loop-clause-test.true c.as_slice-clause-items.ensures c.clause-item.is c.as_slice.ensures c.contains.ensures c.if-contains.true,
  λ h. refl,
)

pub loop-clause-preserved : goal.loop-clause-preserved
loop-clause-preserved c = lacks_more c.args.problem.now.clauses _ c.loop-clause.clause-index c.clause-item.result c.as_slice.result.now c.args.literal _
    c.as_slice-clause-items.ensures c.loop-clause-test.true c.clause-item.is c.as_slice.ensures c.contains.ensures c.if-contains.false c.loop-clause.invariant

pub returns : goal.returns
returns c = (
  λ (t : IsTrue false). absurd (cc t),
  λ a. absurd (lacks_end c.args.problem.now _ c.loop-clause.clause-index c.args.literal c.as_slice-clause-items.ensures c.loop-clause-test.false c.loop-clause.invariant a),
)
