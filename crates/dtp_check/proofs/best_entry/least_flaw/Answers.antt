use Rattle.std.proofs.Math.Facts.{to_z-of_z}
use Rattle.dtp_check.proofs.Founds.{x_there, y_there, values_found, value_found, range_found, difference_found}
use Rattle.dtp_check.proofs.best_entry.least_flaw.Goals as goal

pub returns-in-Some : goal.returns-in-Some
returns-in-Some c = λ s x asked.
    values_found c.objective_law.ensures c.args.state.now x c.args.objective s asked c.args.values.now c.args.m _ (c.in_ok-flaw.ensures s asked.stands) c.in-Some.flaw c.in-Some.is

pub is_attained-requires-clause-x : goal.is_attained-requires-clause-x
is_attained-requires-clause-x c =
    let q = c.requires.asked in
    x_there c.objective_law.ensures c.args.state.now q.1 c.args.objective q.0 q.2 c.args.values.now c.args.m _ (c.in_ok-flaw.ensures q.0 q.2.stands) c.in-None.is c.as_slice.result.now c.as_slice.ensures

pub is_attained-requires-clause-y : goal.is_attained-requires-clause-y
is_attained-requires-clause-y c =
    let q = c.requires.asked in
    y_there c.objective_law.ensures c.args.state.now q.1 c.args.objective q.0 q.2 c.args.values.now c.args.m _ (c.in_ok-flaw.ensures q.0 q.2.stands) c.in-None.is c.as_slice.result.now c.as_slice.ensures

pub returns-then-not-is_attained : goal.returns-then-not-is_attained
returns-then-not-is_attained c = λ s x asked.
    value_found c.objective_law.ensures c.args.state.now x c.args.objective s asked c.args.values.now c.args.m _ (c.in_ok-flaw.ensures s asked.stands) c.in-None.is c.as_slice.result.now c.as_slice.ensures
    c.is_attained.result (simp (to_z-of_z c.ranges.m) at c.is_attained.ensures) c.if-not-is_attained.true

pub returns-in-Some-difference : goal.returns-in-Some-difference
returns-in-Some-difference c = λ s x asked.
    difference_found c.objective_law.ensures c.args.state.now x c.args.objective s asked c.args.values.now c.args.m _ (c.in_ok-flaw.ensures s asked.stands) c.in-None.is c.as_slice.result.now c.as_slice.ensures
    c.is_attained.result (simp (to_z-of_z c.ranges.m) at c.is_attained.ensures) c.if-not-is_attained.false c.difference.result c.in-Some-difference.d c.in-Some-difference.is (simp (to_z-of_z c.ranges.m) at c.difference.ensures)

pub returns-in-None-difference : goal.returns-in-None-difference
returns-in-None-difference c = λ s x asked.
    range_found c.objective_law.ensures c.args.state.now x c.args.objective s asked c.args.values.now c.args.m _ (c.in_ok-flaw.ensures s asked.stands) c.in-None.is c.as_slice.result.now c.as_slice.ensures
    c.is_attained.result (simp (to_z-of_z c.ranges.m) at c.is_attained.ensures) c.if-not-is_attained.false c.difference.result c.in-None-difference.is (simp (to_z-of_z c.ranges.m) at c.difference.ensures)
