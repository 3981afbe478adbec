use Rattle.std.proofs.Common.{arith, ◌≡◌, ◌∙◌, [], sym, ap, subst}
use Rattle.stn_core.specs.declared.problem.Problem.{Problem}
use Rattle.book_core.specs.Runs.{Ledger}
use Rattle.book_core.specs.Books.{IsJustified}
use Rattle.steal_search.proofs.Going.{goes_on}
use Rattle.steal_search.proofs.Telling.{found_there, given_back}
use Rattle.steal_search.proofs.beside.search_beside.Goals as goal

pub returns-in_err-found-clause-pauses : goal.returns-in_err-found-clause-pauses
returns-in_err-found-clause-pauses g c =
    let back = given_back c.hold.new.seat c.release.new.seat (c.in_ok-hold.ensures.held c.if-not-branch.false).0 c.release.ensures in
    omega (arith, back.2, c.in_ok-hold.ensures.pauses, c.in_err-found.ensures.left)

pub returns-in_err-hold-2-clause-seat : goal.returns-in_err-hold-2-clause-seat
returns-in_err-hold-2-clause-seat g c =
    let back = given_back c.hold.new.seat c.release.new.seat (c.in_ok-hold.ensures.held c.if-not-branch.false).0 c.release.ensures in
    let free = goes_on c.args.seat.now c.hold.new.seat c.release.new.seat c.in_ok-hold.ensures.seat back.0 in
    goes_on c.args.seat.now c.release.new.seat c.hold-2.new.seat free c.in_err-hold-2.ensures.seat

pub returns-in_err-hold-2-clause-pauses : goal.returns-in_err-hold-2-clause-pauses
returns-in_err-hold-2-clause-pauses g c =
    let back = given_back c.hold.new.seat c.release.new.seat (c.in_ok-hold.ensures.held c.if-not-branch.false).0 c.release.ensures in
    omega (arith, back.2, c.in_ok-hold.ensures.pauses, c.in_ok-found.ensures.left, c.in_err-hold-2.ensures.pauses)

pub returns-then-not-branch-2-clause-seat : goal.returns-then-not-branch-2-clause-seat
returns-then-not-branch-2-clause-seat g c =
    let back = given_back c.hold.new.seat c.release.new.seat (c.in_ok-hold.ensures.held c.if-not-branch.false).0 c.release.ensures in
    let free = goes_on c.args.seat.now c.hold.new.seat c.release.new.seat c.in_ok-hold.ensures.seat back.0 in
    goes_on c.args.seat.now c.release.new.seat c.hold-2.new.seat free c.in_ok-hold-2.ensures.seat

pub returns-then-not-branch-2-clause-pauses : goal.returns-then-not-branch-2-clause-pauses
returns-then-not-branch-2-clause-pauses g c =
    let back = given_back c.hold.new.seat c.release.new.seat (c.in_ok-hold.ensures.held c.if-not-branch.false).0 c.release.ensures in
    omega (arith, back.2, c.in_ok-hold.ensures.pauses, c.in_ok-found.ensures.left, c.in_ok-hold-2.ensures.pauses)

-- what was found of the whole holds of the cube that the seat holds then
pub deliver-requires-clause-justified : goal.deliver-requires-clause-justified
deliver-requires-clause-justified g c =
    let back = given_back c.hold.new.seat c.release.new.seat (c.in_ok-hold.ensures.held c.if-not-branch.false).0 c.release.ensures in
    let free = goes_on c.args.seat.now c.hold.new.seat c.release.new.seat c.in_ok-hold.ensures.seat back.0 in
    let later = goes_on c.args.seat.now c.release.new.seat c.hold-2.new.seat free c.in_ok-hold-2.ensures.seat in
    let found = c.in_ok-found.found in
    let held = c.in_ok-hold.ensures.held c.if-not-branch.false in
    let again = c.in_ok-hold-2.ensures.held c.if-not-branch-2.false in
    let is : c.problem.result.now ≡ c.hold-2.new.seat.view.begun.problem =
    c.problem.ensures ∙ sym (ap (λ (b : Ledger). b.problem) later.same.4 ∙ c.requires.problem) in
    found_there c.hold-2.new.seat.view.begun.problem c.hold.new.seat c.release.new.seat c.hold-2.new.seat found.batch found.outcome held.1 back.0 back.1 c.in_ok-hold-2.ensures.seat again.1 again.0 c.in_ok-found.ensures.told
    (subst (λ (p : Problem). IsJustified p c.release.new.seat.lemmas [] found.batch found.outcome) is c.in_ok-found.ensures.justified)

pub returns-in_err-deliver-clause-seat : goal.returns-in_err-deliver-clause-seat
returns-in_err-deliver-clause-seat g c =
    let back = given_back c.hold.new.seat c.release.new.seat (c.in_ok-hold.ensures.held c.if-not-branch.false).0 c.release.ensures in
    let free = goes_on c.args.seat.now c.hold.new.seat c.release.new.seat c.in_ok-hold.ensures.seat back.0 in
    let later = goes_on c.args.seat.now c.release.new.seat c.hold-2.new.seat free c.in_ok-hold-2.ensures.seat in
    goes_on c.args.seat.now c.hold-2.new.seat c.deliver.new.seat later c.in_err-deliver.ensures.seat

pub returns-in_err-deliver-clause-pauses : goal.returns-in_err-deliver-clause-pauses
returns-in_err-deliver-clause-pauses g c =
    let back = given_back c.hold.new.seat c.release.new.seat (c.in_ok-hold.ensures.held c.if-not-branch.false).0 c.release.ensures in
    omega (arith, back.2, c.in_ok-hold.ensures.pauses, c.in_ok-found.ensures.left, c.in_ok-hold-2.ensures.pauses, c.count_pause.ensures.pauses, c.in_err-deliver.ensures.pauses)

pub returns-then-divides-clause-seat : goal.returns-then-divides-clause-seat
returns-then-divides-clause-seat g c =
    let back = given_back c.hold.new.seat c.release.new.seat (c.in_ok-hold.ensures.held c.if-not-branch.false).0 c.release.ensures in
    let free = goes_on c.args.seat.now c.hold.new.seat c.release.new.seat c.in_ok-hold.ensures.seat back.0 in
    let later = goes_on c.args.seat.now c.release.new.seat c.hold-2.new.seat free c.in_ok-hold-2.ensures.seat in
    goes_on c.args.seat.now c.hold-2.new.seat c.deliver.new.seat later c.in_ok-deliver.ensures.seat

pub returns-then-divides-clause-pauses : goal.returns-then-divides-clause-pauses
returns-then-divides-clause-pauses g c =
    let back = given_back c.hold.new.seat c.release.new.seat (c.in_ok-hold.ensures.held c.if-not-branch.false).0 c.release.ensures in
    omega (arith, back.2, c.in_ok-hold.ensures.pauses, c.in_ok-found.ensures.left, c.in_ok-hold-2.ensures.pauses, c.count_pause.ensures.pauses, c.in_ok-deliver.ensures.pauses)

pub returns-else-divides-clause-seat : goal.returns-else-divides-clause-seat
returns-else-divides-clause-seat g c =
    let back = given_back c.hold.new.seat c.release.new.seat (c.in_ok-hold.ensures.held c.if-not-branch.false).0 c.release.ensures in
    let free = goes_on c.args.seat.now c.hold.new.seat c.release.new.seat c.in_ok-hold.ensures.seat back.0 in
    let later = goes_on c.args.seat.now c.release.new.seat c.hold-2.new.seat free c.in_ok-hold-2.ensures.seat in
    goes_on c.args.seat.now c.hold-2.new.seat c.deliver.new.seat later c.in_ok-deliver.ensures.seat

pub returns-else-divides-clause-pauses : goal.returns-else-divides-clause-pauses
returns-else-divides-clause-pauses g c =
    let back = given_back c.hold.new.seat c.release.new.seat (c.in_ok-hold.ensures.held c.if-not-branch.false).0 c.release.ensures in
    omega (arith, back.2, c.in_ok-hold.ensures.pauses, c.in_ok-found.ensures.left, c.in_ok-hold-2.ensures.pauses, c.count_pause.ensures.pauses, c.in_ok-deliver.ensures.pauses)
