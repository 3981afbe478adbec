use Rattle.steal_search.proofs.Going.{hand_on}
use Rattle.steal_search.proofs.worker.cube_step.Goals as goal

pub returns-in-Half-clause-hand : goal.returns-in-Half-clause-hand
returns-in-Half-clause-hand g c = hand_on c.args.hand.now c.next.new.hand c.share-near.new.hand c.in_ok-next.ensures.hand c.share-near.ensures.hand
