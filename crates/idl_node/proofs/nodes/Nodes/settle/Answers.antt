use Rattle.std.proofs.Common.{◌≡◌, ◌∙◌, sym, ap, take}
use Rattle.std.proofs.lemmas.List.{take-map}
use Rattle.idl_node.specs.Nodes.{node_value, shown}
use Rattle.idl_node.proofs.nodes.Nodes.settle.Goals as goal

pub returns-in-Err-clause-err : goal.returns-in-Err-clause-err
returns-in-Err-clause-err c =
    let is : shown c.truncate.new.self.keys ≡ take c.args.count c.args.self.now =
    ap shown c.truncate.ensures.keys ∙ sym (take-map node_value c.args.count c.self.inside.set.keys) ∙ ap (take c.args.count) c.self.view_is in
    rw c.in-Err.is is
