use Rattle.std.proofs.Common.{arith, subst, ◌<◌, ◌-◌, ℕ, [], ◌∷◌, length, slice_index}
use Rattle.idl_node.specs.Nodes.{node_value}
use Rattle.clause_form.specs.code.FirstRoots.{AreFirst}
use Rattle.clause_form.proofs.Passes.{shown_at}
use Rattle.clause_form.proofs.Firsts.{going_start, going_turn}
use Rattle.clause_form.proofs.sourcing.spread_all.Goals as goal

pub loop-left-init : goal.loop-left-init
loop-left-init c = record {
  within = omega arith;
  going = going_start c.args.nodes.now c.args.roots.now c.lower_roots.new.asserted c.args.denied.now
      (subst (λ (n : ℕ). AreFirst n (length c.args.roots.now) c.lower_roots.new.asserted (λ r. slice_index c.args.roots.now r ∷ [])) c.requires.count c.lower_roots.ensures) c.requires.no_denied;
}

pub loop-left-preserved : goal.loop-left-preserved
loop-left-preserved c =
    let within = c.loop-left.invariant.within in
    let some : 0 < c.loop-left.left = c.loop-left-test.true in
    let lt : c.loop-left.left - 1 < length c.args.nodes.now = omega arith in
    record {
      within = omega arith;
      going = going_turn c.args.nodes.now c.args.roots.now c.loop-left.left (node_value c.index-nodes-left.result) c.loop-left.asserted c.loop-left.denied c.spread_first.new.asserted c.spread_first.new.denied some within
          (shown_at c.args.nodes.now (c.loop-left.left - 1) c.index-nodes-left.result lt c.index-nodes-left.is) c.spread_first.ensures c.loop-left.invariant.going;
    }
