use Rattle.std.proofs.Common.{arith, refl}
use Rattle.cover_tree.specs.declared.node.Node.TheVariants.{Free, Held}
use Rattle.cover_tree.proofs.Tables.{changed, few_held, at_inside}
use Rattle.cover_tree.proofs.cover.Cover.take.Goals as goal

pub overflow_add-self : goal.overflow_add-self
overflow_add-self c = let few = few_held _ _ _ _ _ c.self.invariant c.args.id (at_inside c.self.inside.links.items c.self.inside.nodes.items c.args.self.now c.args.id _ c.self.view_is c.requires) in omega arith

pub invariant_of-self : goal.invariant_of-self
invariant_of-self c =
    let here = at_inside c.self.inside.links.items c.self.inside.nodes.items c.args.self.now c.args.id _ c.self.view_is c.requires in
    changed _ _ _ _ _ c.self.invariant c.args.id Free (Held c.args.seat) _ _ _ _ here tt tt refl c.remove.ensures.flags c.insert.ensures.flags (omega arith)
