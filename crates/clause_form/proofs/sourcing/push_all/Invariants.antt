use Rattle.std.proofs.Common.{◌≡◌}
use Rattle.idl_node.specs.Nodes.{shown}
use Rattle.clause_form.specs.Polarity.{polarity_of, inner_nodes}
use Rattle.clause_form.specs.Sources.{sources_below}
use Rattle.clause_form.proofs.sourcing.push_all.Given as goal

abbrev pub invariant-loop-number : goal.invariant-loop-number
invariant-loop-number l = record {
  so_far : l.sources.items ≡ sources_below (shown l.nodes) l.roots (polarity_of (shown l.nodes) l.roots) (inner_nodes (shown l.nodes) (polarity_of (shown l.nodes) l.roots)) l.number;
}
