use Rattle.std.proofs.Common.{arith, ap, ◌∙◌, length, get_or}
use Rattle.std.proofs.lemmas.List.{length_push}
use Rattle.std.proofs.lemmas.Result.{err_from_is_err_and}
use Rattle.idl_node.proofs.Steps.{front_on}
use Rattle.idl_node.proofs.ToldApart.{refused_behind, row_ends, row_grows, row_steps, row_stops}
use Rattle.idl_node.proofs.nodes.Nodes.tell_others_apart.Goals as goal

pub returns-in_err-tell_two_apart-clause-refused :
    goal.returns-in_err-tell_two_apart-clause-refused
returns-in_err-tell_two_apart-clause-refused c =
    let q = err_from_is_err_and c.from_residual.result c.from_residual.ensures.1 in
    rw (q.1, q.2) (λ before rest. refused_behind c.tell_two_apart.new.self _ _ c.in_err-tell_two_apart.field-0.0 (c.loop-j.invariant.made before rest)
    (row_stops (get_or c.args.members.now c.args.i 0) c.loop-j.self c.args.members.now c.loop-j.j rest before c.loop-j.row.items c.tell_two_apart.new.self c.in_err-tell_two_apart.field-0.0 c.loop-j-test.true c.in_err-tell_two_apart.ensures.makes))

pub loop-j-preserved : goal.loop-j-preserved
loop-j-preserved c = record {
  made = λ before rest. c.loop-j.invariant.made before rest
      ∙ row_steps (get_or c.args.members.now c.args.i 0) c.loop-j.self c.args.members.now c.loop-j.j rest before c.loop-j.row.items c.tell_two_apart.new.self c.in_ok-tell_two_apart.field-0 c.push.new.self.items c.loop-j-test.true c.in_ok-tell_two_apart.ensures.makes c.in_ok-push.ensures.items;
  count = omega (arith, c.loop-j.invariant.count, ap length c.in_ok-push.ensures.items, length_push c.loop-j.row.items c.in_ok-tell_two_apart.field-0, c.loop-j.auto.j);
  row = λ repeats. row_grows c.loop-j.self c.tell_two_apart.new.self c.args.members.now c.args.i c.loop-j.j c.loop-j.row.items c.push.new.self.items c.in_ok-tell_two_apart.field-0 c.in_ok-tell_two_apart.ensures.front c.loop-j.invariant.count (omega (arith, c.loop-j.auto.j)) c.in_ok-push.ensures.items
      (c.loop-j.invariant.row repeats) (c.in_ok-tell_two_apart.ensures.settled repeats);
  front = front_on c.args.self.now c.loop-j.self c.tell_two_apart.new.self c.loop-j.invariant.front c.in_ok-tell_two_apart.ensures.front;
}

pub returns-clause-made : goal.returns-clause-made
returns-clause-made c = λ before rest. c.loop-j.invariant.made before rest
    ∙ row_ends (get_or c.args.members.now c.args.i 0) c.loop-j.self c.args.members.now c.loop-j.j rest before c.loop-j.row.items c.loop-j-test.false
