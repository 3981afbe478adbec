use Rattle.std.proofs.Common.{ap, List}
use Rattle.idl_linear.specs.declared.summand.Summand.{Summand}
use Rattle.idl_linear.specs.code.Trees.{signed}
use Rattle.idl_linear.proofs.Walking.{walk_whole, walk_starts}
use Rattle.idl_linear.proofs.cursor.Cursor.of_tree.Goals as goal

pub invariant_of-result : goal.invariant_of-result
invariant_of-result c = walk_starts c.args.tree.now.summands c.piece-piece.result.items.now c.piece-piece.result.next c.requires c.piece-piece.ensures.high c.piece-piece.ensures.same

pub returns : goal.returns
returns c = ap (λ (l : List Summand). signed c.args.is_negated l) (walk_whole c.args.tree.now.summands c.piece-piece.result.items.now c.piece-piece.result.next c.requires c.piece-piece.ensures.same)
