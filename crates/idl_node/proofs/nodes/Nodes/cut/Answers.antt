use Rattle.std.proofs.Common.{◌∙◌, ap, sym}
use Rattle.std.proofs.lemmas.List.{take-map}
use Rattle.idl_node.specs.Nodes.{node_value, shown}
use Rattle.idl_node.proofs.nodes.Nodes.cut.Goals as goal

pub returns : goal.returns
returns c = rw (← c.self.view_is) (ap shown c.truncate.ensures.keys ∙ sym (take-map node_value c.args.count c.self.inside.set.keys))
