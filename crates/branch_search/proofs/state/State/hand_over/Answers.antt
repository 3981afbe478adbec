use Rattle.std.specs.Prelude.{None}
use Rattle.branch_search.proofs.Answered.{left_batch}
use Rattle.branch_search.proofs.state.State.hand_over.Goals as goal

pub returns : goal.returns
returns g c = left_batch c.args.task.now c.args.self.now.own.items c.count-seen.result None c.in_ok-left.left c.in_ok-left.ensures.left
    c.count-seen.ensures.count c.requires.proved
