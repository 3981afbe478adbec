use Rattle.std.proofs.Common.{List, [], ◌∷◌, ◌++◌, ap, map, sym, subst, ◌∙◌, ◌≡◌}
use Rattle.kept_lemmas.specs.declared.item.Item.{Item}
use Rattle.kept_lemmas.specs.declared.item.Item.TheVariants.{Keep}
use Rattle.kept_lemmas.specs.Facts.{Shelf}
use Rattle.kept_lemmas.specs.Entries.{AreRight}
use Rattle.lemma_shelf.specs.code.Citing.{States}
use Rattle.lemma_shelf.specs.code.Walks.{shelf_in}
use Rattle.lemma_shelf.proofs.ForLemmas.{kept_alone, alone_states}
use Rattle.lemma_shelf.proofs.shelf.Shelf.keep.Goals as goal

pub returns-clause-right : goal.returns-clause-right
returns-clause-right c =
    let points = c.args.problem.now.points in
    let clauses = c.args.problem.now.clauses in
    let inside = subst (λ es. States (shelf_in c.self.inside.table (map (λ n. n.items) es)) points clauses [] c.args.place) c.as_slice-entries.ensures.value (c.in_ok-stands.ensures.stands.0 c.if-not-branch.false) in
    let states = subst (λ (shelf : Shelf). States shelf points clauses [] c.args.place) c.self.view_is inside in
    let items : c.push.new.self.items ≡ Keep c.args.place ∷ [] = c.in_ok-push.ensures.items ∙ ap (λ (made : List Item). made ++ Keep c.args.place ∷ []) c.in_ok-items.ensures.items in
    subst (λ (made : List Item). AreRight c.args.self.now points clauses made) (sym (c.new.ensures ∙ items)) (kept_alone c.args.self.now points clauses c.args.place states)

pub returns-then-not-branch-clause-none : goal.returns-then-not-branch-clause-none
returns-then-not-branch-clause-none c = λ none right.
    let points = c.args.problem.now.points in
    let clauses = c.args.problem.now.clauses in
    let states = alone_states c.args.self.now points clauses c.args.place right in
    let inside = subst (λ (shelf : Shelf). States shelf points clauses [] c.args.place) (sym c.self.view_is) states in
    let there = subst (λ es. States (shelf_in c.self.inside.table (map (λ n. n.items) es)) points clauses [] c.args.place) (sym c.as_slice-entries.ensures.value) inside in
    let yes = c.in_ok-stands.ensures.stands.1 there in
    let no = c.if-not-branch.true in
    absurd (cc)
