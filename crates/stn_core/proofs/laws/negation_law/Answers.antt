use Rattle.stn_core.proofs.Consequences.{denied, not_both, either}
use Rattle.stn_core.proofs.laws.negation_law.Goals as goal

pub returns-clause-exact : goal.returns-clause-exact
returns-clause-exact c values l = (λ k h. not_both values l h k, λ f. denied values l f)

pub returns-clause-either : goal.returns-clause-either
returns-clause-either c values l = either values l
