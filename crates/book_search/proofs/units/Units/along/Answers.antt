use Rattle.std.proofs.Common.{arith, ◌∙◌}
use Rattle.book_search.proofs.Bases.{with_unit_at, base_over}
use Rattle.book_search.proofs.units.Units.along.Goals as goal
use Rattle.book_search.proofs.units.Units.along.Goals.{in-Some+in_ok-add, in_default}

pub loop-number-preserved : goal.loop-number-preserved
loop-number-preserved c = elim c.match-noted_unit_of.branch [
  | in-Some+in_ok-add w ↦ record { base = with_unit_at c.args.clauses.now c.loop-number.units c.match-noted_unit_of.units _ c.loop-number.number _ c.loop-number.invariant.base (omega (arith, c.loop-number-test.true)) c.index-clauses-number.is w.in-Some.ensures (w.units-is ∙ w.in_ok-add.ensures) }
  | in_default w ↦ rw w.units-is c.loop-number.invariant
]

pub returns-clause-over : goal.returns-clause-over
returns-clause-over c = λ points over. base_over points c.args.clauses.now c.loop-number.units c.loop-number.invariant.base over
