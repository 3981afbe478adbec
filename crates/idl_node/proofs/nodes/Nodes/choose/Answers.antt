use Rattle.std.proofs.Common.{subst, sym, ◌≡◌, ℕ}
use Rattle.std.specs.Prelude.{Result, OnErr}
use Rattle.idl_node.specs.declared.error.NodeError.{NodeError}
use Rattle.idl_node.specs.code.Made.{Makes}
use Rattle.idl_node.specs.Making.{chosen}
use Rattle.idl_node.proofs.Steps.{settled_makes, settled_front, settled_err}
use Rattle.idl_node.proofs.nodes.Nodes.choose.Goals as goal

pub returns-clause-makes : goal.returns-clause-makes
returns-clause-makes c =
    subst (λ (r : Result ℕ NodeError). Makes c.settle.new.self (chosen c.args.self.now c.args.condition c.args.yes c.args.no) r) (sym c.settle.ensures.same)
    (settled_makes c.args.self.now c.add_choice-made.new.self c.settle.new.self c.len-before.result c.len-before.ensures.count
    c.add_choice-made.ensures.front (chosen c.args.self.now c.args.condition c.args.yes c.args.no) c.add_choice-made.result c.settle.ensures.ok c.add_choice-made.ensures.makes)

pub returns-clause-err : goal.returns-clause-err
returns-clause-err c =
    subst (λ (r : Result ℕ NodeError). OnErr r (c.settle.new.self ≡ c.args.self.now)) (sym c.settle.ensures.same)
    (settled_err c.args.self.now c.add_choice-made.new.self c.settle.new.self c.len-before.result c.len-before.ensures.count
    c.add_choice-made.ensures.front c.add_choice-made.result c.settle.ensures.err)

pub returns-clause-front : goal.returns-clause-front
returns-clause-front c =
    settled_front c.args.self.now c.add_choice-made.new.self c.settle.new.self c.len-before.result c.len-before.ensures.count
    c.add_choice-made.ensures.front c.add_choice-made.result c.settle.ensures.ok c.settle.ensures.err
