use Rattle.std.proofs.Common.{◌≡◌, None}
use Rattle.steal_search.specs.Workers.{GoesOn, pauses_in}
use Rattle.steal_search.proofs.beside.hold.Given as goal

abbrev pub invariant-loop : goal.invariant-loop
invariant-loop g l = record {
  seat : GoesOn l.fn.seat l.seat;
  none : l.seat.cube ≡ None;
  pauses : pauses_in l.seat.view.events ≡ pauses_in l.fn.seat.view.events;
}
