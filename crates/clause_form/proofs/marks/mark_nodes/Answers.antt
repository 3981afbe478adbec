use Rattle.std.proofs.Common.{arith}
use Rattle.clause_form.proofs.Passes.{marked_start, marked_turn, marked_end}
use Rattle.clause_form.proofs.marks.mark_nodes.Goals as goal

pub loop-left-init : goal.loop-left-init
loop-left-init c = record {
  within = omega arith;
  so_far = marked_start _ _ _ _ _ _ c.requires.no_asserted c.requires.no_denied c.requires.no_inner c.mark_all.ensures.count c.mark_all.ensures.each;
}

pub loop-left-preserved : goal.loop-left-preserved
loop-left-preserved c = record {
  within = omega arith;
  so_far = marked_turn c.requires.table.0 c.args.nodes.now c.args.roots.now c.loop-left.left c.index-nodes-left.result c.needed_members-members.result.now c.loop-left.asserted c.loop-left.denied c.loop-left.inner c.spread.new.asserted c.spread.new.denied c.mark_compounds.new.marks
      c.requires.table.1 c.loop-left.invariant.so_far.polarity_are.asserted_are.count_is c.loop-left-test.true c.loop-left.invariant.within c.index-nodes-left.is c.spread.ensures c.needed_members-members.ensures c.mark_compounds.ensures.count c.mark_compounds.ensures.each c.loop-left.invariant.so_far;
}

pub returns : goal.returns
returns c = marked_end _ _ c.loop-left.left _ _ _ c.loop-left-test.false c.loop-left.invariant.so_far
