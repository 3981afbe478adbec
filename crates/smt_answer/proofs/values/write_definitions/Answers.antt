use Rattle.std.proofs.Common.{arith, refl, ap, ◌<◌, length, get_or, List}
use Rattle.idl_node.specs.declared.sort.Sort.{Sort}
use Rattle.idl_node.specs.declared.sort.Sort.TheVariants as sort
use Rattle.smt_answer.proofs.Fronts.{front_kept}
use Rattle.smt_answer.proofs.Lines.{no_value, lines_more, line_written}
use Rattle.smt_answer.proofs.values.write_definitions.Goals as goal

pub loop-i-preserved : goal.loop-i-preserved
loop-i-preserved c =
    let i = c.loop-i.i in
    let in_values : i < length c.args.values.now = omega arith in
    let in_names : i < length c.args.names.now = omega arith in
    let sorted = ap (λ (ss : List Sort). get_or ss i sort.Int) c.sorts-sorts.ensures in
    record {
      written = line_written _ _ _ _ _ _ c.in_ok-write_definition.ensures.ok c.loop-i.invariant.written
          (lines_more c.args.names.now c.args.values.now i in_names in_values c.name.result.now _ (get_or c.args.values.now i no_value) c.name.ensures sorted refl);
      front = front_kept _ _ _ _ _ (omega arith) (omega arith) c.loop-i.invariant.front c.in_ok-write_definition.ensures.front;
    }
