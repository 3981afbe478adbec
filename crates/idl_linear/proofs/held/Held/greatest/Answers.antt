use Rattle.std.proofs.Common.{sym, subst}
use Rattle.idl_linear.specs.declared.held.Held.{Held as Holding}
use Rattle.idl_linear.specs.code.Held.{held_summands}
use Rattle.idl_linear.specs.code.Trees.{TreeValue, AllWithin}
use Rattle.idl_linear.proofs.Greatest.{all_within-signed}
use Rattle.idl_linear.proofs.held.Held.greatest.Goals as goal

pub returns-in-Shared : goal.returns-in-Shared
returns-in-Shared c =
    subst (λ (h : Holding). AllWithin c.greatest.result (held_summands h)) (sym c.in-Shared.is)
    (all_within-signed c.in-Shared.is_negated c.greatest.result c.in-Shared.tree.value.summands
    (subst (λ (t : TreeValue). AllWithin c.greatest.result t.summands) c.deref-in-Shared.ensures c.greatest.ensures))
