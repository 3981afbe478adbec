use Rattle.worker_tests.proofs.Places.{are_both}
use Rattle.worker_tests.proofs.hands.left.Goals as goal

pub close-requires : goal.close-requires
close-requires c = are_both c.args.pool c.in_ok-hands.hands.items c.args.first c.args.second c.in_ok-hands.ensures.items c.requires.count c.requires.first c.requires.second
