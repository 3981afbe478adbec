use Rattle.idl_apply.proofs.ComparisonNodes.{difference_low, difference_high}
use Rattle.idl_apply.proofs.comparing.compare_two.Goals as goal

pub relate-requires-clause-low : goal.relate-requires-clause-low
relate-requires-clause-low c = difference_low c.args.a.now c.args.b.now c.in_ok-difference.difference c.in_ok-difference.ensures.ok

pub relate-requires-clause-high : goal.relate-requires-clause-high
relate-requires-clause-high c = difference_high c.args.a.now c.args.b.now c.in_ok-difference.difference c.in_ok-difference.ensures.ok
