use Rattle.std.proofs.Common.{◌<◌, length, arith}
use Rattle.smt_sexpr.proofs.Access.{within_parts, node_read}
use Rattle.smt_sexpr.proofs.sexprs.Sexprs.node.Goals as goal

pub index-requires : goal.index-requires
index-requires c = let h : c.args.id < length c.self.inside.nodes.items = within_parts _ _ _ _ c.self.view_is c.requires.1 in omega arith

pub returns : goal.returns
returns c = λ x m. node_read _ _ _ _ x _ c.self.view_is c.index.ensures c.requires.1 m
