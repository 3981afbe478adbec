use Rattle.refute_tree.proofs.Examples.{two_orders_refuted, two_ways_refuted}
use Rattle.refute_tree.proofs.laws.examples_law.Goals as goal

pub returns-clause-two_orders : goal.returns-clause-two_orders
returns-clause-two_orders c = two_orders_refuted

pub returns-clause-two_ways : goal.returns-clause-two_ways
returns-clause-two_ways c = two_ways_refuted
