use Rattle.refute_tree.proofs.Extended.{narrow_added_whole, narrow_added_steps}
use Rattle.refute_tree.proofs.store.Steps.add_narrow.Goals as goal

pub invariant_of-self-2 : goal.invariant_of-self-2
invariant_of-self-2 c = narrow_added_whole c.self.inside.lists c.push_narrow.new.self c.args.kind c.args.literal c.self.invariant c.requires.whole c.in_ok-push_narrow.ensures.ok

pub returns-clause-ok : goal.returns-clause-ok
returns-clause-ok c = narrow_added_steps c.self.inside.lists c.push_narrow.new.self c.args.kind c.args.literal c.args.self.now c.self.invariant c.self.view_is c.in_ok-push_narrow.ensures.ok
