use Rattle.std.proofs.Common.{Some}
use Rattle.steal_search.proofs.Going.{hand_fetched, near_on, near_answered, take_answered}
use Rattle.steal_search.proofs.Pauses.{near_pauses, take_pauses}
use Rattle.steal_search.proofs.worker.fetched.Goals as goal

pub returns-in-Some-clause-hand : goal.returns-in-Some-clause-hand
returns-in-Some-clause-hand g c = hand_fetched c.args.hand.now c.fetch.new.hand c.in-Some.ensures.0 c.in-Some.id c.in-Some.ensures.2

pub returns-in-Some-clause-seat : goal.returns-in-Some-clause-seat
returns-in-Some-clause-seat g c = near_on c.args.seat.now c.take_near.new.seat (Some c.in-Some.id) c.take_near.result c.take_near.ensures.ok c.take_near.ensures.err

pub returns-in-Some-clause-answered : goal.returns-in-Some-clause-answered
returns-in-Some-clause-answered g c = near_answered c.args.seat.now c.take_near.new.seat (Some c.in-Some.id) c.take_near.result c.take_near.ensures.ok

pub returns-in-None-clause-answered : goal.returns-in-None-clause-answered
returns-in-None-clause-answered g c = take_answered c.args.seat.now c.take.new.seat c.take.result c.take.ensures.ok

pub returns-in-Some-clause-pauses : goal.returns-in-Some-clause-pauses
returns-in-Some-clause-pauses g c = near_pauses c.args.seat.now c.take_near.new.seat (Some c.in-Some.id) c.take_near.result c.take_near.ensures.ok c.take_near.ensures.err

pub returns-in-None-clause-pauses : goal.returns-in-None-clause-pauses
returns-in-None-clause-pauses g c = take_pauses c.args.seat.now c.take.new.seat c.take.result c.take.ensures.ok c.take.ensures.err
