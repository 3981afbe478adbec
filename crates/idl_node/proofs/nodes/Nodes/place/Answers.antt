use Rattle.std.proofs.Common.{arith, ◌∙◌, ◌≤◌, sym, ap, List, length, take}
use Rattle.std.proofs.lemmas.List.{length-map, take-map, take_all}
use Rattle.idl_node.specs.Limits.{nodes_limit}
use Rattle.idl_node.specs.Nodes.{NodeValue, node_value, shown, placed}
use Rattle.idl_node.proofs.Lengths.{placed-grows}
use Rattle.idl_node.proofs.Sharing.{placed_within, placed_nowhere}
use Rattle.idl_node.proofs.nodes.Nodes.place.Goals as goal

pub returns-then-number-ge-NODES_LIMIT-clause-makes : goal.returns-then-number-ge-NODES_LIMIT-clause-makes
returns-then-number-ge-NODES_LIMIT-clause-makes c =
    let keys = c.self.inside.set.keys in
    let few : length (shown keys) ≤ nodes_limit = omega (arith, length-map keys node_value, c.self.invariant) in
    let full = placed_nowhere keys c.insert_full.new.self.keys c.args.node c.in_ok-number.number c.in_ok-number.ensures.keys
    c.in_ok-number.ensures.index c.in_ok-number.ensures.within few (omega arith) in
    ap (λ (ns : List NodeValue). placed ns (node_value c.args.node)) (sym c.self.view_is) ∙ full.0

pub returns-then-number-ge-NODES_LIMIT-clause-err : goal.returns-then-number-ge-NODES_LIMIT-clause-err
returns-then-number-ge-NODES_LIMIT-clause-err c =
    let keys = c.self.inside.set.keys in
    let few : length (shown keys) ≤ nodes_limit = omega (arith, length-map keys node_value, c.self.invariant) in
    let full = placed_nowhere keys c.insert_full.new.self.keys c.args.node c.in_ok-number.number c.in_ok-number.ensures.keys
    c.in_ok-number.ensures.index c.in_ok-number.ensures.within few (omega arith) in
    ap shown c.truncate.ensures.keys ∙ sym (take-map node_value nodes_limit c.insert_full.new.self.keys) ∙ full.1 ∙ c.self.view_is

pub returns-then-number-ge-NODES_LIMIT-clause-front : goal.returns-then-number-ge-NODES_LIMIT-clause-front
returns-then-number-ge-NODES_LIMIT-clause-front c =
    let same = returns-then-number-ge-NODES_LIMIT-clause-err c in
    ap (take (length c.args.self.now)) same ∙ take_all (length c.args.self.now) c.args.self.now (omega arith)

pub invariant_of-self-else-number-ge-NODES_LIMIT : goal.invariant_of-self-else-number-ge-NODES_LIMIT
invariant_of-self-else-number-ge-NODES_LIMIT c =
    let keys = c.self.inside.set.keys in
    let few : length (shown keys) ≤ nodes_limit = omega (arith, length-map keys node_value, c.self.invariant) in
    let within = placed_within keys c.insert_full.new.self.keys c.args.node c.in_ok-number.number c.in_ok-number.ensures.keys c.in_ok-number.ensures.index
    c.in_ok-number.ensures.within (omega arith) in
    let grown = placed-grows (shown keys) (node_value c.args.node) _ within in
    omega (arith, length-map c.insert_full.new.self.keys node_value, grown.few few)

pub returns-clause-makes : goal.returns-clause-makes
returns-clause-makes c =
    ap (λ (ns : List NodeValue). placed ns (node_value c.args.node)) (sym c.self.view_is)
    ∙ placed_within c.self.inside.set.keys c.insert_full.new.self.keys c.args.node c.in_ok-number.number
    c.in_ok-number.ensures.keys c.in_ok-number.ensures.index c.in_ok-number.ensures.within (omega arith)
