use Rattle.refute_tree.proofs.Extended.{path_added_whole, path_added_steps}
use Rattle.refute_tree.proofs.store.Steps.add_path.Goals as goal

pub invariant_of-self-2 : goal.invariant_of-self-2
invariant_of-self-2 c = path_added_whole c.self.inside.lists c.push_path.new.self c.args.literals.now c.self.invariant c.requires c.in_ok-push_path.ensures.ok

pub returns-clause-ok : goal.returns-clause-ok
returns-clause-ok c = path_added_steps c.self.inside.lists c.push_path.new.self c.args.literals.now c.args.self.now c.self.invariant c.self.view_is c.requires c.in_ok-push_path.ensures.ok
