use Rattle.std.proofs.Common.{◌≡◌, List, map, Some, None, sym, ap, subst, ◌∙◌}
use Rattle.std.specs.Prelude.{slice_get, slice_index_or}
use Rattle.std.specs.List.{AllZip}
use Rattle.kept_lemmas.specs.declared.item.Item.{Item}
use Rattle.kept_lemmas.specs.Facts.{Shelf}
use Rattle.kept_lemmas.specs.Entries.{AreRight}
use Rattle.lemma_shelf.specs.InPlace.{StandsInPlace}
use Rattle.lemma_shelf.specs.code.Citing.{StandsFor, IsPickedBy}
use Rattle.lemma_shelf.specs.code.Walks.{shelf_in}
use Rattle.lemma_shelf.proofs.ForLemmas.{standing_right, standing_in_place, picked_as}
use Rattle.lemma_shelf.proofs.shelf.Shelf.cite.Goals as goal

pub returns-clause-right : goal.returns-clause-right
returns-clause-right c =
    let points = c.args.problem.now.points in
    let clauses = c.args.problem.now.clauses in
    let lemmas = c.args.lemmas.now in
    let items = c.in_ok-items.items.items in
    let inside = subst (λ es. AllZip (StandsFor (shelf_in c.self.inside.table (map (λ n. n.items) es)) points clauses) lemmas items) c.as_slice.ensures.value c.in_ok-items.ensures.stand in
    let all = subst (λ (shelf : Shelf). AllZip (StandsFor shelf points clauses) lemmas items) c.self.view_is inside in
    subst (λ (made : List Item). AreRight c.args.self.now points clauses made) (sym c.new.ensures) (standing_right c.args.self.now points clauses c.own_law.ensures lemmas items all c.requires)

pub returns-clause-stand : goal.returns-clause-stand
returns-clause-stand c =
    let points = c.args.problem.now.points in
    let clauses = c.args.problem.now.clauses in
    let lemmas = c.args.lemmas.now in
    let items = c.in_ok-items.items.items in
    let inside = subst (λ es. AllZip (StandsFor (shelf_in c.self.inside.table (map (λ n. n.items) es)) points clauses) lemmas items) c.as_slice.ensures.value c.in_ok-items.ensures.stand in
    let all = subst (λ (shelf : Shelf). AllZip (StandsFor shelf points clauses) lemmas items) c.self.view_is inside in
    subst (λ (made : List Item). AllZip (StandsInPlace c.args.self.now) lemmas made) (sym c.new.ensures) (standing_in_place c.args.self.now points clauses lemmas items all)

pub returns-clause-picked : goal.returns-clause-picked
returns-clause-picked c = λ j lemma item at there.
    let points = c.args.problem.now.points in
    let clauses = c.args.problem.now.clauses in
    let place = slice_index_or c.args.places.now j None in
    let made : slice_get c.in_ok-items.items.items j ≡ Some item = ap (λ (items : List Item). slice_get items j) (sym c.new.ensures) ∙ there in
    let inside = subst (λ es. IsPickedBy (shelf_in c.self.inside.table (map (λ n. n.items) es)) points clauses lemma place item) c.as_slice.ensures.value (c.in_ok-items.ensures.picked j lemma item at made) in
    picked_as c.args.self.now points clauses lemma place item (subst (λ (shelf : Shelf). IsPickedBy shelf points clauses lemma place item) c.self.view_is inside)
