use Rattle.std.proofs.Common.{arith, refl}
use Rattle.book_core.specs.declared.event.Event.TheVariants.{Release}
use Rattle.book_lock.specs.declared.cube.Cube.{Cube}
use Rattle.steal_search.proofs.Pauses.{ended_pauses}
use Rattle.steal_search.proofs.dealing.deal.Goals as goal

pub returns-in-Err-clause-pauses : goal.returns-in-Err-clause-pauses
returns-in-Err-clause-pauses g c =
    let given = ended_pauses c.args.seat.now c.release.new.seat (λ (k : Cube). Release c.args.seat.now.view.number k.id) 0 (λ cube. refl) c.requires.searching.holding c.release.ensures in
    omega (arith, given, c.in-Err.ensures.left)
