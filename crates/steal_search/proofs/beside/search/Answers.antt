use Rattle.std.proofs.Common.{[], List, sym, subst}
use Rattle.book_core.specs.declared.event.Outcome.{Outcome}
use Rattle.book_core.specs.Books.{IsJustified}
use Rattle.book_core.specs.Shared.{lemmas_of}
use Rattle.refute_tree.specs.declared.lemma.Lemma.{Lemma}
use Rattle.refute_tree.specs.Batches.{LemmaBatch}
use Rattle.steal_search.proofs.Going.{lemmas_over}
use Rattle.steal_search.proofs.Telling.{told_justified}
use Rattle.steal_search.proofs.beside.search.Goals as goal

pub search-requires-clause-lemmas : goal.search-requires-clause-lemmas
search-requires-clause-lemmas c = lemmas_over c.args.problem.now c.args.seat.now (lemmas_of c.lemmas.result.now) c.requires.problem c.lemmas.ensures c.sound.ensures.over

pub returns-clause-justified : goal.returns-clause-justified
returns-clause-justified c =
    let found = c.in_ok-finding.finding in
    let there : IsJustified c.args.problem.now c.args.seat.now.lemmas [] found.batch found.outcome =
    subst (λ (ls : List Lemma). IsJustified c.args.problem.now ls [] found.batch found.outcome) c.lemmas.ensures c.in_ok-finding.ensures.justified in
    subst (λ (t : LemmaBatch × Outcome). IsJustified c.args.problem.now c.args.seat.now.lemmas [] t.0 t.1)
    (λ i. (sym c.told.ensures.batch i, sym c.told.ensures.outcome i))
    (told_justified c.args.problem.now c.args.seat.now.lemmas found.batch found.outcome there)
