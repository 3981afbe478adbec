use Rattle.std.proofs.Common.{◌≡◌, List, true, sym, ap, subst, ◌∙◌}
use Rattle.stn_core.specs.declared.literal.Literal.{Literal}
use Rattle.lemma_shelf.specs.code.Tables.{AreClosed, is_active}
use Rattle.lemma_shelf.specs.code.Walks.{facts_in, places}
use Rattle.lemma_shelf.specs.code.WrittenOut.{Rises, AreWrittenOut}
use Rattle.lemma_shelf.proofs.Placing.{rises_sorted, closed_permuted, as_lowered}
use Rattle.lemma_shelf.proofs.Resting.{rests_none}
use Rattle.lemma_shelf.proofs.lowering.lowered.Goals as goal

pub lowered_lemmas-requires-clause-rises : goal.lowered_lemmas-requires-clause-rises
lowered_lemmas-requires-clause-rises c = subst Rises (sym c.as_slice.ensures.value) (rises_sorted c.sort.new.self.items c.in_ok-sort.ensures.sorted)

pub lowered_lemmas-requires-clause-closed : goal.lowered_lemmas-requires-clause-closed
lowered_lemmas-requires-clause-closed c =
    let active : c.in_ok-_active._active ≡ true = c.in_ok-_active.ensures.active ∙ ap (λ (cs : List (List Literal)). is_active cs (facts_in c.args.table.now) c.args.root) c.in_ok-walk.ensures.knows.of ∙ c.requires.active in
    let knows = c.in_ok-_active.ensures.knows active in
    let place = places c.is_active.new.self.present in
    subst (AreClosed c.args.table.now.lemmas.items place) (sym c.as_slice.ensures.value)
    (closed_permuted c.args.table.now.lemmas.items place c.in_ok-numbers.numbers.items c.sort.new.self.items c.in_ok-sort.ensures.permutation
    (subst (AreClosed c.args.table.now.lemmas.items place) (sym c.in_ok-numbers.ensures.same) knows.closed))

pub returns : goal.returns
returns c =
    let active : c.in_ok-_active._active ≡ true = c.in_ok-_active.ensures.active ∙ ap (λ (cs : List (List Literal)). is_active cs (facts_in c.args.table.now) c.args.root) c.in_ok-walk.ensures.knows.of ∙ c.requires.active in
    let book = c.args.table.now.book in
    let lemmas = c.args.table.now.lemmas.items in
    let clauses = c.args.problem.now.clauses in
    let knows = c.in_ok-_active.ensures.knows active in
    let rests = c.in_ok-_active.ensures.rests active (rests_none lemmas c.args.root c.in_ok-walk.walk.reached c.in_ok-walk.ensures.none) in
    let place = places c.is_active.new.self.present in
    let closed =
    closed_permuted lemmas place c.in_ok-numbers.numbers.items c.sort.new.self.items c.in_ok-sort.ensures.permutation
    (subst (AreClosed lemmas place) (sym c.in_ok-numbers.ensures.same) knows.closed) in
    as_lowered book lemmas c.args.table.now.points.items c.requires.table clauses c.args.root c.requires.root
    c.is_active.new.self.reached c.in_ok-numbers.numbers.items c.sort.new.self.items c.in_ok-numbers.ensures.same c.in_ok-sort.ensures.permutation (c.in_ok-_active.ensures.there active) rests
    place c.in_ok-lemmas.lemmas.items (rises_sorted c.sort.new.self.items c.in_ok-sort.ensures.sorted) c.in_ok-numbers.ensures.unique closed
    (subst (λ (cs : List (List Literal)). AreWrittenOut cs book lemmas c.sort.new.self.items c.in_ok-lemmas.lemmas.items) (knows.of ∙ c.in_ok-walk.ensures.knows.of)
    (subst (λ ns. AreWrittenOut c.is_active.new.self.present.clauses.now book lemmas ns c.in_ok-lemmas.lemmas.items) c.as_slice.ensures.value c.in_ok-lemmas.ensures))
