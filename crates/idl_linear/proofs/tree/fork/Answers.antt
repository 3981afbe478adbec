use Rattle.std.proofs.Common.{subst}
use Rattle.idl_linear.specs.code.Trees.{TreeValue, AllWithin}
use Rattle.idl_linear.proofs.Greatest.{all_within-both}
use Rattle.idl_linear.proofs.tree.fork.Goals as goal

pub invariant_of-result : goal.invariant_of-result
invariant_of-result c =
    let left = subst (λ (t : TreeValue). AllWithin c.greatest.result t.summands) c.deref-3.ensures c.greatest.ensures in
    let right = subst (λ (t : TreeValue). AllWithin c.greatest-2.result t.summands) c.deref-4.ensures c.greatest-2.ensures in
    ((c.requires.left, c.requires.right), all_within-both c.greatest.result c.greatest-2.result c.max-greatest.result c.args.left.value.summands c.args.right.value.summands c.max-greatest.ensures left right)
