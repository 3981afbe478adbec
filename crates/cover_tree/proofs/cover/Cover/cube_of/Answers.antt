use Rattle.std.proofs.Common.{arith, ap, ◌∙◌}
use Rattle.cover_tree.specs.Covers.{Cubes, cube_at}
use Rattle.cover_tree.proofs.Tables.{step_up, cube_end}
use Rattle.cover_tree.proofs.cover.Cover.cube_of.Goals as goal

pub loop-at-smaller : goal.loop-at-smaller
loop-at-smaller c = (step_up _ _ _ _ _ c.self.invariant c.loop-at.at c.args.id _ c.loop-at.cube.items _ c.loop-at-test.true c.loop-at.invariant.within c.index-link.ensures c.in_ok-push.ensures.items c.loop-at.invariant.path).1

pub loop-at-preserved : goal.loop-at-preserved
loop-at-preserved c =
    let up = step_up _ _ _ _ _ c.self.invariant c.loop-at.at c.args.id _ c.loop-at.cube.items _ c.loop-at-test.true c.loop-at.invariant.within c.index-link.ensures c.in_ok-push.ensures.items c.loop-at.invariant.path in
    let old = c.loop-at.invariant.within in
    record { path = up.0; within = omega (arith, up.1) }

pub returns : goal.returns
returns c = cube_end c.self.inside.links.items c.loop-at.at c.args.id c.loop-at.cube.items _ _ c.loop-at-test.false c.new.ensures c.reverse.ensures.items c.loop-at.invariant.path ∙ ap (λ (k : Cubes). cube_at k c.args.id) c.self.view_is
