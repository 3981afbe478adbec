use Rattle.std.proofs.Common.{◌≡◌, ◌≤◌, ◌+◌, ◌^◌, None}
use Rattle.steal_search.specs.declared.worker.Step.TheVariants.{Done}
use Rattle.steal_search.specs.Workers.{GoesOn, HandGoesOn, HasEnded, pauses_in}
use Rattle.steal_search.proofs.worker.go_on.Given as goal

abbrev pub invariant-loop : goal.invariant-loop
invariant-loop g l = record {
  seat : GoesOn l.fn.seat l.seat;
  none : l.seat.cube ≡ None;
  hand : HandGoesOn l.fn.hand l.hand;
  tools : l.pace.tools ≡ l.team.points;
  pauses : pauses_in l.seat.view.events + l.pace.pauses ≤ pauses_in l.fn.seat.view.events + 2 ^ 32;
  ended : l.step ≡ Done → HasEnded l.seat;
}
