use Rattle.worker_tests.proofs.Places.{same_fetched}
use Rattle.worker_tests.proofs.hands.fetch.Goals as goal

pub returns-in-Some : goal.returns-in-Some
returns-in-Some g c = same_fetched c.args.hand.now c.fetch.new.hand c.in-Some.ensures.0 c.in-Some.id c.in-Some.ensures.2
