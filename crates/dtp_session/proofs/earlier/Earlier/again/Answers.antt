use Rattle.std.proofs.Common.{◌≡◌, List, [], ◌∷◌, ◌++◌, sym, ap, subst, ◌∙◌}
use Rattle.kept_lemmas.specs.declared.item.Item.{Item}
use Rattle.kept_lemmas.specs.declared.item.Item.TheVariants.{Keep}
use Rattle.kept_lemmas.specs.Entries.{AreRight}
use Rattle.kept_lemmas.specs.Facts.{Shelf, facts_of}
use Rattle.dtp_session.specs.code.Waiting.{shelf_with}
use Rattle.dtp_session.proofs.earlier.Earlier.again.Goals as goal

pub returns-clause-again : goal.returns-clause-again
returns-clause-again c = λ points clauses right.
    let shelf = c.args.self.now in
    let place = c.args.place in
    let items : c.in_ok-shown.shown ≡ Keep place ∷ [] = c.in_ok-shown.ensures ∙ c.new.ensures ∙ c.in_ok-push.ensures.items ∙ ap (λ (made : List Item). made ++ Keep place ∷ []) c.in_ok-items.ensures.items in
    let behind : c.put.new.shelf ≡ shelf = c.in_ok-put.ensures ∙ ap (shelf_with c.self.inside.shelf) c.take-waiting.ensures.value ∙ c.self.view_is in
    let now = ap (shelf_with c.add_kept.new.self) c.take-waiting.ensures.after in
    record {
      place = place;
      alone = items;
      named = c.is_place_named.ensures c.if-not-is_place_named.false;
      right = subst (λ (made : List Item). AreRight shelf points clauses made) (sym items) right;
      states = now ∙ subst (λ (s : Shelf). c.add_kept.new.self ≡ s ++ facts_of s clauses (Keep place ∷ []) ∷ []) behind (c.in_ok-add_kept.ensures.ok clauses)
          ∙ ap (λ (made : List Item). shelf ++ facts_of shelf clauses made ∷ []) (sym items);
    }
