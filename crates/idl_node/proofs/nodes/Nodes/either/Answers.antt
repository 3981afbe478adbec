use Rattle.std.proofs.Common.{ℕ, List, subst}
use Rattle.idl_node.specs.code.Made.{Makes}
use Rattle.idl_node.specs.Nodes.{disjunction, placed}
use Rattle.idl_node.proofs.nodes.Nodes.either.Goals as goal

pub returns-clause-makes : goal.returns-clause-makes
returns-clause-makes c = subst (λ (ms : List ℕ). Makes c.place.new.self (placed c.args.self.now (disjunction ms)) c.place.result) c.in_ok-members.ensures.items c.place.ensures.makes
