use Rattle.std.proofs.lemmas.List.Elements.{All-push}
use Rattle.stn_core.specs.Literal.{IsOver}
use Rattle.graph_tests.specs.declared.wide.TheConstants.{POINTS}
use Rattle.graph_tests.proofs.wide.chain.Goals as goal

pub links-preserved : goal.links-preserved
links-preserved c = rw c.in_ok-push.ensures.items (All-push (IsOver POINTS) _ _ c.links.invariant c.link.ensures)
