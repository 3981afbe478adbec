use Rattle.std.proofs.Common.{◌≡◌, List, [], ◌∷◌, ◌++◌, map, Some, ℕ, refl, sym, ap, subst, ◌∙◌}
use Rattle.std.specs.Prelude.{IsSome}
use Rattle.std.proofs.lemmas.List.{map-append}
use Rattle.kept_lemmas.specs.declared.item.Item.TheVariants.{Keep}
use Rattle.lemma_shelf.specs.code.Additions.{HasItems}
use Rattle.lemma_shelf.specs.code.Tables.{number_of}
use Rattle.lemma_shelf.specs.code.Walks.{shelf_in}
use Rattle.lemma_shelf.proofs.MoreItems.{shelf_longer, shelf_counted}
use Rattle.lemma_shelf.proofs.Repeating.{kept_there, has_kept}
use Rattle.lemma_shelf.proofs.shelf.Shelf.add_kept.Goals as goal

pub unwrap-number-requires : goal.unwrap-number-requires
unwrap-number-requires c =
    let entries = map (λ n. n.items) c.self.inside.entries.items in
    let there = kept_there c.self.inside.table entries c.args.self.now c.requires.0 c.requires.1 c.args.place c.self.view_is c.requires.2 in
    let found = c.find.ensures ∙ ap (λ es. number_of (map (λ n. n.items) es) c.args.place) c.as_slice.ensures.value ∙ there.1 in
    subst IsSome (sym found) refl

pub returns-clause-ok : goal.returns-clause-ok
returns-clause-ok c = λ clauses.
    let table = c.self.inside.table in
    let entries = map (λ n. n.items) c.self.inside.entries.items in
    let number = c.unwrap-number.result in
    let is : number_of entries c.args.place ≡ Some number = sym (c.find.ensures ∙ ap (λ es. number_of (map (λ n. n.items) es) c.args.place) c.as_slice.ensures.value) ∙ c.unwrap-number.ensures in
    let made : c.push.new.self.items ≡ number ∷ [] = c.in_ok-push.ensures.items ∙ ap (λ (ns : List ℕ). ns ++ number ∷ []) c.in_ok-numbers.ensures.items in
    let has = subst (HasItems table (shelf_in table entries) clauses (Keep c.args.place ∷ []) table) (sym made) (has_kept table entries clauses c.args.place number c.self.invariant.0 c.self.invariant.1 is) in
    let all = ap (map (λ n. n.items)) c.in_ok-push-2.ensures.items ∙ map-append (λ n. n.items) c.self.inside.entries.items (c.push.new.self ∷ []) in
    (shelf_longer table table c.args.self.now clauses (Keep c.args.place ∷ []) entries (map (λ n. n.items) c.push-2.new.self.items) c.push.new.self.items c.self.invariant.1 has all c.self.view_is).0

pub invariant_of-self-2 : goal.invariant_of-self-2
invariant_of-self-2 c =
    let table = c.self.inside.table in
    let entries = map (λ n. n.items) c.self.inside.entries.items in
    let number = c.unwrap-number.result in
    let clauses = c.requires.1 in
    let is : number_of entries c.args.place ≡ Some number = sym (c.find.ensures ∙ ap (λ es. number_of (map (λ n. n.items) es) c.args.place) c.as_slice.ensures.value) ∙ c.unwrap-number.ensures in
    let made : c.push.new.self.items ≡ number ∷ [] = c.in_ok-push.ensures.items ∙ ap (λ (ns : List ℕ). ns ++ number ∷ []) c.in_ok-numbers.ensures.items in
    let has = subst (HasItems table (shelf_in table entries) clauses (Keep c.args.place ∷ []) table) (sym made) (has_kept table entries clauses c.args.place number c.self.invariant.0 c.self.invariant.1 is) in
    let all = ap (map (λ n. n.items)) c.in_ok-push-2.ensures.items ∙ map-append (λ n. n.items) c.self.inside.entries.items (c.push.new.self ∷ []) in (
      c.self.invariant.0,
      (shelf_longer table table c.args.self.now clauses (Keep c.args.place ∷ []) entries (map (λ n. n.items) c.push-2.new.self.items) c.push.new.self.items c.self.invariant.1 has all c.self.view_is).1,
      shelf_counted table table (shelf_in table entries) clauses (Keep c.args.place ∷ []) entries (map (λ n. n.items) c.push-2.new.self.items) c.push.new.self.items c.self.invariant.2 has all,
    )
