use Rattle.std.proofs.Common.{arith, ◌∙◌, ◌<◌, length}
use Rattle.idl_node.specs.Nodes.{node_value, shown}
use Rattle.clause_form.specs.Polarity.{polarity_of, inner_nodes}
use Rattle.clause_form.proofs.Passes.{shown_at}
use Rattle.clause_form.proofs.Firsts.{flag_is, asserting_is, denying_is, next_sources, sources_end}
use Rattle.clause_form.proofs.sourcing.push_all.Goals as goal

pub loop-number-preserved : goal.loop-number-preserved
loop-number-preserved c =
    let nodes = c.args.nodes.now in
    let roots = c.args.roots.now in
    let k = c.loop-number.number in
    let p = polarity_of (shown nodes) roots in
    let lt : c.loop-number.number < length c.args.nodes.now = c.loop-number-test.true in
    record {
      so_far = next_sources (shown nodes) roots p (inner_nodes (shown nodes) p) k _ _ _ (node_value c.index-nodes-number.result) c.number_before-by_asserted.result c.number_before-by_denied.result c.loop-number.sources.items c.push_node.new.sources.items
          (flag_is (length nodes) _ _ k _ c.requires.marks.polarity_are.asserted_are lt c.index.ensures)
          (flag_is (length nodes) _ _ k _ c.requires.marks.polarity_are.denied_are lt c.index-in-loop-number.ensures)
          (flag_is (length nodes) _ _ k _ c.requires.marks.inner_are lt c.index-in-loop-number-2.ensures)
          (shown_at nodes k c.index-nodes-number.result lt c.index-nodes-number.is)
          (c.number_before-by_asserted.ensures ∙ asserting_is (length nodes) (shown nodes) roots _ k _ c.requires.firsts.asserted_are lt c.index-in-loop-number-3.ensures)
          (c.number_before-by_denied.ensures ∙ denying_is (length nodes) (shown nodes) roots _ k _ c.requires.firsts.denied_are lt c.index-in-loop-number-4.ensures)
          c.loop-number.invariant.so_far c.in_ok-push_node.ensures;
    }

pub returns : goal.returns
returns c = sources_end c.args.nodes.now c.args.roots.now c.loop-number.number c.loop-number.sources.items (omega arith) c.loop-number.invariant.so_far
