use Rattle.std.proofs.Common.{arith, refl}
use Rattle.cover_tree.specs.declared.node.Node.TheVariants.{Free, Held}
use Rattle.cover_tree.proofs.Tables.{changed, some_held, at_inside}
use Rattle.cover_tree.proofs.cover.Cover.release.Goals as goal

pub overflow_sub-self : goal.overflow_sub-self
overflow_sub-self c = some_held _ _ _ _ _ c.self.invariant c.args.id _ (at_inside c.self.inside.links.items c.self.inside.nodes.items c.args.self.now c.args.id _ c.self.view_is c.requires.1)

pub invariant_of-self : goal.invariant_of-self
invariant_of-self c =
    let here = at_inside c.self.inside.links.items c.self.inside.nodes.items c.args.self.now c.args.id _ c.self.view_is c.requires.1 in
    let some = some_held _ _ _ _ _ c.self.invariant c.args.id _ here in
    changed _ _ _ _ _ c.self.invariant c.args.id (Held c.requires.0) Free _ _ _ _ here tt tt refl c.insert.ensures.flags c.remove.ensures.flags (omega arith)
