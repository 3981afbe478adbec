use Rattle.std.proofs.Common.{ap, refl, sym, subst, ◌∙◌}
use Rattle.book_core.specs.Books.{IsJustifiedIn}
use Rattle.book_core.specs.Deliveries.{Handing}
use Rattle.book_core.specs.Ends.{said_by}
use Rattle.book_core.specs.Runs.{state_of}
use Rattle.book_core.specs.Shared.{lemmas_of}
use Rattle.book_search.proofs.Delivered.{cube_over, justified_there, lemmas_over}
use Rattle.book_search.proofs.Waiting.{delivered_less}
use Rattle.book_search.proofs.solve.work.Goals.{In_ok-delivery}
use Rattle.book_search.proofs.solve.work.Goals as goal

pub search-requires-clause-lemmas : goal.search-requires-clause-lemmas
search-requires-clause-lemmas c = lemmas_over c.problem.result.now c.args.book.now.problem (lemmas_of c.lemmas.result.now) _ c.problem.ensures c.lemmas.ensures c.sound.ensures.sound.over

pub search-requires-clause-cube : goal.search-requires-clause-cube
search-requires-clause-cube c = cube_over c.problem.result.now c.args.book.now.problem (state_of c.args.book.now) c.args.cube.now c.args.id c.problem.ensures c.requires.cube c.sound.ensures.sound

-- what is delivered is justified, as what was found is
justified : (c : In_ok-delivery) → IsJustifiedIn c.args.book.now.problem (state_of c.args.book.now) c.args.id c.in_ok-delivery.delivery.batch c.in_ok-delivery.delivery.outcome
justified c = subst (λ (h : Handing). IsJustifiedIn c.args.book.now.problem (state_of c.args.book.now) c.args.id h.batch h.outcome) (sym c.in_ok-delivery.ensures)
    (justified_there c.problem.result.now c.args.book.now.problem (lemmas_of c.lemmas.result.now) _ c.args.cube.now _ c.in_ok-found.found.batch c.in_ok-found.found.outcome c.problem.ensures c.lemmas.ensures c.requires.cube c.in_ok-found.ensures.justified)

pub enter-requires-clause-justified : goal.enter-requires-clause-justified
enter-requires-clause-justified c = justified (goal.at.enter-requires-clause-justified c).In_ok-delivery

pub returns-clause-less : goal.returns-clause-less
returns-clause-less c =
    let d = c.in_ok-delivery.delivery in
    delivered_less c.ends_law.ensures.ends c.args.book.now c.enter.new.self c.args.id d.batch d.outcome c.sound.ensures.opening c.sound.ensures.run c.requires.held (justified (goal.at.returns-clause-less c).In_ok-delivery) (ap (λ (h : Handing). said_by h.outcome) c.in_ok-delivery.ensures ∙ c.in_ok-found.ensures.said refl) c.requires.unfound c.in_ok-enter.ensures.ok
