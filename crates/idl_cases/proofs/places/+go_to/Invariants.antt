use Rattle.std.proofs.Common.{◌≡◌, ◌<◌, ◌≤◌, length}
use Rattle.idl_linear.specs.code.Bounded.{IsOver}
use Rattle.idl_cases.specs.code.CaseSums.{added}
use Rattle.idl_cases.specs.code.CasePlaces.{place_case}
use Rattle.idl_cases.proofs.places.+go_to.Given as goal

abbrev pub decreases-go_to : goal.decreases-go_to
decreases-go_to l = length l.at.choices.now

abbrev pub invariant-loop-next : goal.invariant-loop-next
invariant-loop-next l = record {
  same : added l.case (place_case l.at) ≡ added l.fn.case (place_case l.fn.at);
  within : l.at.place < length l.at.choices.now;
  few : length l.at.choices.now ≤ length l.fn.at.choices.now;
  over : IsOver l.case.linear;
}

abbrev pub decreases-loop-next : goal.decreases-loop-next
decreases-loop-next l = length l.at.choices.now
