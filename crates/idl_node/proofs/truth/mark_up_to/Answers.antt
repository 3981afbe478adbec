use Rattle.std.proofs.Common.{arith, sym, ap, get_or, false, List, Bool, ◌∙◌, ◌≡◌, ◌≤◌, ◌<◌, ◌+◌, ℕ, length}
use Rattle.stn_core.specs.Literal.{IsOver}
use Rattle.idl_node.specs.Truth.{point_values, truth}
use Rattle.idl_node.proofs.Marking.{node_fits, mark_is, truths_pushed, front_pushed}
use Rattle.idl_node.proofs.truth.mark_up_to.Goals as goal

pub node_holds-value-requires : goal.node_holds-value-requires
node_holds-value-requires c =
    let i = c.len-i.result in
    let within : i < length c.args.nodes.now = omega arith in
    let room : i ≤ length c.deref.result.now = omega arith in
    (c.args.nodes.now, node_fits c.as_slice-slice.result.now c.args.nodes.now c.as_slice-slice.ensures.nodes i c.index-slice-i.result within c.index-slice-i.is (IsOver (length c.args.values.now + 1)) c.requires.table c.deref.result.now room)

pub nodes-preserved : goal.nodes-preserved
nodes-preserved c =
    let i = c.len-i.result in
    let marks = c.nodes.marks.items in
    let within : i < length c.args.nodes.now = omega arith in
    let room : i ≤ length c.deref.result.now = omega arith in
    let counted : length marks ≡ i = omega arith in
    let fits : length marks < length c.args.nodes.now = omega arith in
    let values = point_values c.args.values.now in
    let here : c.node_holds-value.result ≡ truth c.args.nodes.now values i =
    c.node_holds-value.ensures
    ∙ mark_is c.as_slice-slice.result.now c.args.nodes.now c.as_slice-slice.ensures.nodes i c.index-slice-i.result within c.index-slice-i.is (IsOver (length c.args.values.now + 1)) c.requires.table c.deref.result.now room values
    (λ k b. ap (λ (ms : List Bool). get_or ms k false) c.deref.ensures.value ∙ c.nodes.invariant.marks.each k (omega arith)) in
    record { marks = truths_pushed _ values marks _ _ fits c.nodes.invariant.marks (here ∙ ap (truth c.args.nodes.now values) (sym counted)) c.in_ok-push.ensures.items; front = front_pushed _ _ _ _ c.nodes.invariant.front c.in_ok-push.ensures.items }
