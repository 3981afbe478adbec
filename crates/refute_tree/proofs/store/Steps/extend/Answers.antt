use Rattle.refute_tree.proofs.Extended.{extended_whole, extended_steps}
use Rattle.refute_tree.proofs.store.Steps.extend.Goals as goal

pub invariant_of-self-2 : goal.invariant_of-self-2
invariant_of-self-2 c = extended_whole c.self.inside.lists c.extend.new.self c.args.more c.self.invariant c.requires c.in_ok-extend.ensures.ok

pub returns-clause-ok : goal.returns-clause-ok
returns-clause-ok c = extended_steps c.self.inside.lists c.extend.new.self c.args.more c.args.self.now c.self.invariant c.self.view_is c.in_ok-extend.ensures.ok
