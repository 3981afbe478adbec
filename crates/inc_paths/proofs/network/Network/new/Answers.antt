use Rattle.inc_paths.proofs.Networks.{begins}
use Rattle.inc_paths.proofs.network.Network.new.Goals as goal

pub invariant_of-result : goal.invariant_of-result
invariant_of-result c =
    rw (c.in_ok-new.ensures, c.in_ok-new-2.ensures, c.new-3.ensures.items) (begins c.args.points c.requires.some c.requires.few)
