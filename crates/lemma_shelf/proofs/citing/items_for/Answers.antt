use Rattle.std.proofs.Common.{arith, ◌≡◌, ℕ, List, ◌∷◌, [], length, map, None, Some, refl, sym, ap, subst, ◌∙◌, length-append, Option}
use Rattle.std.specs.Prelude.{slice_get, slice_index_or}
use Rattle.std.proofs.lemmas.Option.{slice_get_read}
use Rattle.kept_lemmas.specs.declared.item.Kept.{Kept}
use Rattle.kept_lemmas.specs.declared.item.Item.{Item}
use Rattle.refute_tree.specs.declared.lemma.Lemma.{Lemma}
use Rattle.lemma_shelf.specs.code.Citing.{StandsFor, IsPickedBy}
use Rattle.lemma_shelf.specs.code.Walks.{shelf_in}
use Rattle.lemma_shelf.proofs.ForLemmas.{zip_more, each_more}
use Rattle.lemma_shelf.proofs.citing.items_for.Goals as goal

pub loop-j-preserved : goal.loop-j-preserved
loop-j-preserved c =
    let lemmas = c.args.lemmas.now in
    let shelf = shelf_in c.args.table.now (map (λ n. n.items) c.args.entries.now) in
    let points = c.args.problem.now.points in
    let clauses = c.args.problem.now.clauses in
    let items = c.loop-j.items.items in
    let item = c.in_ok-item.item in
    let lemma = c.index-lemmas-j.result in
    let at : slice_get lemmas c.loop-j.j ≡ Some lemma = slice_get_read lemmas (length lemmas) c.loop-j.j lemma refl c.loop-j-test.true c.index-lemmas-j.is in
    let count = c.loop-j.invariant.count in
    let long = length-append items (item ∷ []) in
    let made = ap (λ (xs : List Item). length xs) c.in_ok-push.ensures.items in
    let here : IsPickedBy shelf points clauses lemma (slice_index_or c.args.places.now c.loop-j.j None) item =
    subst (λ (p : Option Kept). IsPickedBy shelf points clauses lemma p item) c.place_at-place.ensures c.in_ok-item.ensures.picked in
    record {
      count = omega (arith, count, long, made);
      stand = zip_more (StandsFor shelf points clauses) lemmas items c.push.new.self.items c.loop-j.j lemma item at c.in_ok-push.ensures.items c.loop-j.invariant.stand c.in_ok-item.ensures.stands;
      picked = each_more (λ (k : ℕ) (l : Lemma) (i : Item). IsPickedBy shelf points clauses l (slice_index_or c.args.places.now k None) i) lemmas items c.push.new.self.items c.loop-j.j lemma item count at c.in_ok-push.ensures.items
          c.loop-j.invariant.picked here;
      walk = c.in_ok-item.ensures.walk;
    }
