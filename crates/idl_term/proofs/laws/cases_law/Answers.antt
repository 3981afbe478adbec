use Rattle.idl_apply.specs.Choices.{no_choice}
use Rattle.std.proofs.Common.{[], ◌∷◌}
use Rattle.idl_apply.proofs.CaseSteps.{choices_counted, pairs_counted}
use Rattle.idl_term.proofs.laws.cases_law.Goals as goal

pub returns-clause-choices : goal.returns-clause-choices
returns-clause-choices c = choices_counted (no_choice ∷ [])

pub returns-clause-pairs : goal.returns-clause-pairs
returns-clause-pairs c = pairs_counted
