use Rattle.refute_tree.proofs.Extended.{small_added_whole, small_added_steps}
use Rattle.refute_tree.proofs.store.Steps.add_small.Goals as goal

pub invariant_of-self-2 : goal.invariant_of-self-2
invariant_of-self-2 c = small_added_whole c.self.inside.lists c.push_small.new.self c.args.kind c.args.number c.self.invariant c.requires c.in_ok-push_small.ensures.ok

pub returns-clause-ok : goal.returns-clause-ok
returns-clause-ok c = small_added_steps c.self.inside.lists c.push_small.new.self c.args.kind c.args.number c.args.self.now c.self.invariant c.self.view_is c.in_ok-push_small.ensures.ok
