use Rattle.std.proofs.Common.{◌≡◌, length, sym, ◌∙◌, rules}
use Rattle.refute_tree.proofs.Extended.{lists_length}
use Rattle.refute_tree.proofs.store.Steps.len.Goals as goal

pub returns : goal.returns
returns c =
    let own : c.len.result ≡ length c.self.inside.lists.kinds.items = search rules in
    own ∙ sym (lists_length c.self.inside.lists c.args.self.now c.self.view_is)
