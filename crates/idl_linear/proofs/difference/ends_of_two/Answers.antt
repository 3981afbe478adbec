use Rattle.std.proofs.Common.{ap, sym, ◌∙◌, arith}
use Rattle.idl_linear.specs.code.Steps.{less}
use Rattle.idl_linear.proofs.Merging.{rest_from_linear}
use Rattle.idl_linear.proofs.Outcomes.{starts, no_ends, ends_at}
use Rattle.idl_linear.proofs.difference.ends_of_two.Goals as goal

pub loop-summand-init : goal.loop-summand-init
loop-summand-init c =
    rw (c.cursor.ensures.items, c.cursor-2.ensures.items) (record {
      left = rest_from_linear c.args.a.now c.cursor.ensures.linear;
      right = rest_from_linear c.args.b.now c.cursor-2.ensures.linear;
      same = starts c.args.a.now c.args.b.now c.cursor.ensures.linear c.cursor-2.ensures.linear;
      x = omega arith;
      y = omega arith;
    })
