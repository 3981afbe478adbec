use Rattle.worker_tests.proofs.Places.{first_is, second_is}
use Rattle.worker_tests.proofs.hands.opened.Goals as goal

-- the second hand is popped before the first one
pub invariant_of-result : goal.invariant_of-result
invariant_of-result c = record {
  count = c.in_ok-pool.ensures.0;
  first_is = first_is c.in_ok-pool.pool c.in_ok-pool.hands.items c.pop.new.self.items c.pop-2.new.self.items c.in-Some-pop.first c.in-Some.second c.in_ok-pool.ensures c.in-Some.ensures.items c.in-Some-pop.ensures.items;
  second_is = second_is c.in_ok-pool.pool c.in_ok-pool.hands.items c.pop.new.self.items c.pop-2.new.self.items c.in-Some-pop.first c.in-Some.second c.in_ok-pool.ensures c.in-Some.ensures.items c.in-Some-pop.ensures.items;
}
