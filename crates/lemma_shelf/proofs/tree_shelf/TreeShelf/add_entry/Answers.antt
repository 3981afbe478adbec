use Rattle.std.proofs.Common.{[], ◌∷◌, ◌++◌, map, ap, subst, ◌∙◌}
use Rattle.std.proofs.lemmas.List.{map-append}
use Rattle.lemma_shelf.specs.code.Additions.{HasItems}
use Rattle.lemma_shelf.specs.code.Walks.{shelf_in}
use Rattle.lemma_shelf.proofs.MoreItems.{shelf_longer, shelf_counted}
use Rattle.lemma_shelf.proofs.tree_shelf.TreeShelf.add_entry.Goals as goal

pub returns-in-Ok-clause-ok : goal.returns-in-Ok-clause-ok
returns-in-Ok-clause-ok c =
    let same = c.as_slice.ensures.value ∙ c.reserve.ensures.items in
    let has = subst (λ es. HasItems c.self.inside.table (shelf_in c.self.inside.table (map (λ n. n.items) es)) c.args.problem.now.clauses c.args.items.now c.add_items.new.table c.in-Ok.numbers.items) same c.in-Ok.ensures.ok in
    let all = ap (map (λ n. n.items)) (c.push_reserved.ensures.items ∙ ap (λ es. es ++ c.in-Ok.numbers ∷ []) c.reserve.ensures.items)
    ∙ map-append (λ n. n.items) c.self.inside.entries.items (c.in-Ok.numbers ∷ []) in
    (shelf_longer c.self.inside.table c.add_items.new.table c.args.self.now c.args.problem.now.clauses c.args.items.now (map (λ n. n.items) c.self.inside.entries.items)
    (map (λ n. n.items) c.push_reserved.new.self.items) c.in-Ok.numbers.items c.self.invariant.1 has all c.self.view_is).0

pub invariant_of-self-in-Ok : goal.invariant_of-self-in-Ok
invariant_of-self-in-Ok c =
    let same = c.as_slice.ensures.value ∙ c.reserve.ensures.items in
    let has = subst (λ es. HasItems c.self.inside.table (shelf_in c.self.inside.table (map (λ n. n.items) es)) c.args.problem.now.clauses c.args.items.now c.add_items.new.table c.in-Ok.numbers.items) same c.in-Ok.ensures.ok in
    let all = ap (map (λ n. n.items)) (c.push_reserved.ensures.items ∙ ap (λ es. es ++ c.in-Ok.numbers ∷ []) c.reserve.ensures.items)
    ∙ map-append (λ n. n.items) c.self.inside.entries.items (c.in-Ok.numbers ∷ []) in
    let longer = shelf_longer c.self.inside.table c.add_items.new.table c.args.self.now c.args.problem.now.clauses c.args.items.now (map (λ n. n.items) c.self.inside.entries.items)
    (map (λ n. n.items) c.push_reserved.new.self.items) c.in-Ok.numbers.items c.self.invariant.1 has all c.self.view_is in (
      has.goes_on.whole,
      longer.1,
      shelf_counted c.self.inside.table c.add_items.new.table (shelf_in c.self.inside.table (map (λ n. n.items) c.self.inside.entries.items)) c.args.problem.now.clauses c.args.items.now (map (λ n. n.items) c.self.inside.entries.items)
          (map (λ n. n.items) c.push_reserved.new.self.items) c.in-Ok.numbers.items c.self.invariant.2 has all,
      c.in-Ok.ensures.trees c.self.invariant.3,
    )
