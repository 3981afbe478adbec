use Rattle.worker_tests.proofs.Places.{same_pushed}
use Rattle.worker_tests.proofs.hands.push.Goals as goal

pub returns-in-Ok : goal.returns-in-Ok
returns-in-Ok c = same_pushed c.args.hand.now c.push.new.hand c.args.id c.in-Ok.ensures.ok
