use Rattle.std.proofs.Common.{subst}
use Rattle.std.specs.List.{list_all}
use Rattle.idl_linear.specs.declared.summand.Summand.{Summand}
use Rattle.idl_linear.specs.Limits.{coefficient_limit, constant_limit}
use Rattle.idl_linear.specs.Linear.{LinearValue, is_within}
use Rattle.idl_linear.specs.code.Held.{held_summands}
use Rattle.idl_linear.specs.code.Trees.{AllWithin}
use Rattle.idl_linear.proofs.Greatest.{all_within-least, all_within-limited}
use Rattle.idl_linear.proofs.Merging.{both_true}
use Rattle.idl_linear.proofs.linear.Linear.greatest.Goals as goal

pub returns-clause-within : goal.returns-clause-within
returns-clause-within c =
    let inner = held_summands c.self.inside.summands in
    let limits = both_true (list_all (λ (s : Summand). is_within coefficient_limit s.coefficient) inner) (is_within constant_limit c.self.inside.constant) c.self.invariant.limited in
    subst (λ (l : LinearValue). AllWithin c.min.result l.summands) c.self.view_is (all_within-least c.greatest.result coefficient_limit c.min.result inner c.min.ensures c.greatest.ensures (all_within-limited inner limits.0))
