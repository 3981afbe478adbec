use Rattle.std.proofs.Common.{◌+◌, ◌<◌, length, arith}
use Rattle.smt_sexpr.proofs.Access.{item_within, item_means, leaf_no_item}
use Rattle.smt_sexpr.proofs.sexprs.Sexprs.item.Goals as goal
use Rattle.smt_sexpr.proofs.sexprs.Sexprs.item.Goals.{In-List}

within : (c : In-List) → c.in-List.first + c.args.k < length c.self.inside.items.items
within c = item_within _ _ _ _ _ _ _ _ c.self.view_is c.in-List.is (c.node.ensures _ c.requires.2) c.requires.3

pub overflow_add-first : goal.overflow_add-first
overflow_add-first c = omega (arith, within c)

pub index-requires : goal.index-requires
index-requires c = omega (arith, within c)

pub returns-in-List : goal.returns-in-List
returns-in-List c = λ x y m i. item_means _ _ x y _ _ _ _ _ c.self.view_is c.in-List.is (c.node.ensures x m) c.index.ensures i

pub returns-in-Leaf : goal.returns-in-Leaf
returns-in-Leaf c = λ x y m i. absurd (leaf_no_item _ x y _ _ _ c.in-Leaf.is (c.node.ensures x m) i)
