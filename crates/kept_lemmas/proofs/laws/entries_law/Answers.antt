use Rattle.std.proofs.Common.{[]}
use Rattle.kept_lemmas.proofs.Going.{entries_go_on, shelf_goes_on}
use Rattle.kept_lemmas.proofs.Sound.{entries_sound}
use Rattle.kept_lemmas.proofs.laws.entries_law.Goals as goal

pub returns-clause-items : goal.returns-clause-items
returns-clause-items c = λ entries points clauses items right r values held.
    entries_sound values (λ cycle. c.cycle_law.ensures cycle values) (c.negation_law.ensures.either values) (λ l h n. (c.negation_law.ensures.exact values l).0 n h)
    entries points clauses items right r held

pub returns-clause-goes_on : goal.returns-clause-goes_on
returns-clause-goes_on c = entries_go_on

pub returns-clause-shelf : goal.returns-clause-shelf
returns-clause-shelf c = λ entries p. shelf_goes_on [] entries p
