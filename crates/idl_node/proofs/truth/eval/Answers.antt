use Rattle.std.proofs.Common.{arith, ◌∙◌, ◌≡◌, ◌≤◌, ◌<◌, ◌+◌, length, length-set}
use Rattle.std.proofs.lemmas.Grind.{common_steps}
use Rattle.stn_core.specs.Literal.{IsOver}
use Rattle.idl_node.specs.Truth.{point_values, truth}
use Rattle.idl_node.proofs.Marking.{node_fits, mark_is}
use Rattle.idl_node.proofs.truth.eval.Goals as goal

pub node_holds-value-requires : goal.node_holds-value-requires
node_holds-value-requires c =
    let i = c.loop-i.i in
    let within : i < length c.args.nodes.now = omega arith in
    let room : i ≤ length c.loop-i.marks = omega arith in
    (c.args.nodes.now, node_fits c.as_slice-slice.result.now c.args.nodes.now c.as_slice-slice.ensures.nodes i c.index-slice-i.result within c.index-slice-i.is (IsOver (length c.args.values.now + 1)) c.requires.table c.loop-i.marks room)

pub loop-i-preserved : goal.loop-i-preserved
loop-i-preserved c =
    let i = c.loop-i.i in
    let within : i < length c.args.nodes.now = omega arith in
    let room : i ≤ length c.loop-i.marks = omega arith in
    let here : c.node_holds-value.result ≡ truth c.args.nodes.now (point_values c.args.values.now) i =
    c.node_holds-value.ensures
    ∙ mark_is c.as_slice-slice.result.now c.args.nodes.now c.as_slice-slice.ensures.nodes i c.index-slice-i.result within c.index-slice-i.is (IsOver (length c.args.values.now + 1)) c.requires.table c.loop-i.marks room (point_values c.args.values.now) c.loop-i.invariant.done in
    record { room = length-set _ _ _ ∙ c.loop-i.invariant.room; done = λ k h. grind (arith, common_steps, here, c.loop-i.invariant.done k) }
