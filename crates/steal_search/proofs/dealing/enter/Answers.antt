use Rattle.std.proofs.Common.{ap}
use Rattle.book_core.specs.Deliveries.{Handing}
use Rattle.book_core.specs.declared.event.Event.TheVariants.{Deliver}
use Rattle.book_lock.specs.declared.cube.Cube.{Cube}
use Rattle.steal_search.specs.Workers.{pause_by}
use Rattle.steal_search.proofs.Going.{some_is}
use Rattle.steal_search.proofs.Pauses.{ended_on_ok}
use Rattle.steal_search.proofs.dealing.enter.Goals as goal

pub returns-clause-pauses : goal.returns-clause-pauses
returns-clause-pauses g c =
    let delivery = c.in_ok-delivery.delivery in
    ended_on_ok c.args.seat.now c.enter.new.seat (λ (k : Cube). Deliver c.args.seat.now.view.number k.id delivery.batch delivery.outcome) (pause_by c.args.found.outcome)
    (λ cube. ap (λ (d : Handing). pause_by d.outcome) c.in_ok-delivery.ensures) (some_is c.args.seat.now.cube c.requires.justified.0 c.requires.justified.1) c.enter.result c.enter.ensures.ok
