use Rattle.std.proofs.Common.{arith}
use Rattle.idl_term.proofs.TreesOfIds.{list_from, has_meaning, tree_at}
use Rattle.idl_term.proofs.binding.variable_of.Goals as goal

pub symbol-requires : goal.symbol-requires
symbol-requires c =
    let ids = list_from (λ s. s.now) c.args.sexprs.now c.args.id c.items.result c.in-Some-len2.field-0 c.requires c.items.ensures c.in-Some-len2.is in
    has_meaning _ _ (tree_at c.args.sexprs.now c.in-Some-len2.field-0.now 0 ids.trees (omega (arith, c.in-Some-len2.len_at_least)))
