use Rattle.std.proofs.Common.{arith}
use Rattle.idl_linear.proofs.Ends.{ends_from_start}
use Rattle.idl_linear.proofs.Merging.{rest_from_linear}
use Rattle.idl_linear.proofs.difference.ends_of_one.Goals as goal

pub loop-summand-init : goal.loop-summand-init
loop-summand-init c =
    rw c.cursor-cursor.ensures.items (record {
      rest = rest_from_linear c.args.term.now c.cursor-cursor.ensures.linear;
      same = ends_from_start c.args.term.now.summands c.cursor-cursor.ensures.linear.ascends;
      x = omega arith;
      y = omega arith;
    })
