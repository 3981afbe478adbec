use Rattle.std.proofs.Common.{[]}
use Rattle.lemma_shelf.proofs.Tested.{is_clause_of_decides}
use Rattle.lemma_shelf.proofs.Unflawed.{unflawed_items, right_items, own_flaw}
use Rattle.lemma_shelf.proofs.laws.flaw_law.Goals as goal

pub returns-clause-clause : goal.returns-clause-clause
returns-clause-clause c = is_clause_of_decides

pub returns-clause-items : goal.returns-clause-items
returns-clause-items c = λ shelf points clauses items. (unflawed_items shelf points clauses items, right_items shelf points clauses items)

pub returns-clause-own : goal.returns-clause-own
returns-clause-own c = λ shelf points clauses lemmas. own_flaw shelf points clauses [] lemmas
