use Rattle.std.proofs.Common.{arith}
use Rattle.branch_search.proofs.AtOnce.{waiting_more}
use Rattle.branch_search.proofs.state.State.literals_waiting.Goals as goal
use Rattle.branch_search.proofs.state.State.literals_waiting.Goals.{then-is_for_net+in_ok-push, else-is_for_net}

pub places-preserved : goal.places-preserved
places-preserved c =
    let es = c.args.self.now.entries.items in
    elim c.if-is_for_net.branch [
      | then-is_for_net+in_ok-push w ↦ rw w.literals-is (waiting_more es w.deref.result.now c.places.k w.literal_on.result
          c.places.literals.items w.push.new.self.items w.in_ok-push.ensures.items w.deref.ensures.value
          (omega (arith, c.places-test.true)) w.literal_on.ensures c.places.invariant)
      | else-is_for_net w ↦ rw w.literals-is c.places.invariant
    ]
