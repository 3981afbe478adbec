use Rattle.std.proofs.Common.{rules, ◌≡◌, [], refl}
use Rattle.book_core.proofs.ClosedTrees.{pending_from, pending_done, written}
use Rattle.book_core.proofs.closing.closing_steps.Goals as goal

pub loop-k-init : goal.loop-k-init
loop-k-init c = pending_from _ _ _ _ _ c.requires.cover c.in_ok-waiting.ensures.items c.new-steps.ensures

pub loop-k-preserved : goal.loop-k-preserved
loop-k-preserved c = (written _ _ _ c.requires.cover c.requires.shut c.requires.over _ _ _ c.in-Some.k _ _ c.in-Some.ensures.items c.loop-k.invariant c.in_ok-write_node.ensures).0

pub loop-k-smaller : goal.loop-k-smaller
loop-k-smaller c = (written _ _ _ c.requires.cover c.requires.shut c.requires.over _ _ _ c.in-Some.k _ _ c.in-Some.ensures.items c.loop-k.invariant c.in_ok-write_node.ensures).1

pub returns-clause-tree : goal.returns-clause-tree
returns-clause-tree c inputs =
    let left : c.loop-k.waiting.items ≡ [] = search rules in
    pending_done _ _ _ _ _ _ left refl c.loop-k.invariant inputs
