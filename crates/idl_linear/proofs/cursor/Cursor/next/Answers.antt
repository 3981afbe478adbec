use Rattle.idl_linear.specs.code.Trees.{tree_list}
use Rattle.idl_linear.proofs.Walking.{walk_goes_on}
use Rattle.idl_linear.proofs.cursor.Cursor.next.Goals as goal

pub invariant_of-self : goal.invariant_of-self
invariant_of-self c =
    walk_goes_on _ c.filled-piece.result.items.now c.in-Some.rest.now (tree_list c.self.inside.tree) c.in-Some.summand.now c.self.inside.next c.filled-piece.result.next
    c.self.invariant c.filled-piece.ensures.same c.in-Some.ensures.cases.0 c.filled-piece.ensures.high
