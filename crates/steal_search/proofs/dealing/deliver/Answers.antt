use Rattle.book_core.specs.declared.event.Event.TheVariants.{Release}
use Rattle.book_lock.specs.declared.cube.Cube.{Cube}
use Rattle.std.proofs.Common.{arith, refl}
use Rattle.steal_search.proofs.Going.{some_is, refused_ended}
use Rattle.steal_search.proofs.Pauses.{refused_pauses}
use Rattle.steal_search.proofs.dealing.deliver.Goals as goal

pub returns-in-Err-clause-seat : goal.returns-in-Err-clause-seat
returns-in-Err-clause-seat g c = refused_ended c.args.seat.now c.enter.new.seat c.release.new.seat (λ (k : Cube). Release c.enter.new.seat.view.number k.id) c.in-Err.ensures.err (some_is c.args.seat.now.cube c.requires.justified.0 c.requires.justified.1) c.release.ensures

pub returns-in-Err-clause-pauses : goal.returns-in-Err-clause-pauses
returns-in-Err-clause-pauses g c =
    let same = refused_pauses c.args.seat.now c.enter.new.seat c.release.new.seat (λ (k : Cube). Release c.enter.new.seat.view.number k.id) (λ cube. refl) c.in-Err.ensures.err
    (some_is c.args.seat.now.cube c.requires.justified.0 c.requires.justified.1) c.release.ensures in
    omega (arith, same)
