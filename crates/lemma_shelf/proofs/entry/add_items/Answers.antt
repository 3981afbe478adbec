use Rattle.std.proofs.Common.{arith, ◌≡◌, ℕ, List, length, map, refl, sym, subst, Some}
use Rattle.std.specs.Prelude.{slice_get}
use Rattle.std.proofs.lemmas.Option.{slice_get_read}
use Rattle.kept_lemmas.specs.Entries.{IsItemRight}
use Rattle.lemma_shelf.specs.code.Tables.{facts_at}
use Rattle.lemma_shelf.specs.code.Walks.{facts_in, shelf_in}
use Rattle.lemma_shelf.specs.code.Additions.{AddsItem}
use Rattle.lemma_shelf.proofs.HeldSteps.{trees_further}
use Rattle.lemma_shelf.proofs.MoreItems.{right_now, added_items}
use Rattle.lemma_shelf.proofs.Steps.{begins_table}
use Rattle.lemma_shelf.proofs.entry.add_items.Goals as goal

pub add_item-requires-clause-right : goal.add_item-requires-clause-right
add_item-requires-clause-right c =
    let at : slice_get c.args.items.now c.loop-item.item-index ≡ Some c.item-item.result = slice_get_read c.args.items.now (length c.args.items.now) c.loop-item.item-index c.item-item.result refl (omega (arith, c.loop-item-test.true)) c.item-item.is in
    subst (λ (ns : List ℕ). IsItemRight (shelf_in c.loop-item.table (map (λ n. n.items) c.args.entries.now)) c.args.problem.now.points c.args.problem.now.clauses (facts_at (facts_in c.loop-item.table) ns) c.item-item.result)
    (sym c.as_slice.ensures.value)
    (right_now c.args.table.now c.loop-item.table (map (λ n. n.items) c.args.entries.now) c.args.problem.now.points c.args.problem.now.clauses c.args.items.now c.loop-item.item-index c.item-item.result c.loop-item.numbers.items
    c.requires.entries at c.requires.right c.loop-item.invariant.items)

pub returns-in_err-push-clause-front : goal.returns-in_err-push-clause-front
returns-in_err-push-clause-front c = begins_table c.args.table.now c.loop-item.table c.add_item.new.table c.loop-item.invariant.front c.in_ok-number.ensures.front

pub loop-item-preserved : goal.loop-item-preserved
loop-item-preserved c =
    let at : slice_get c.args.items.now c.loop-item.item-index ≡ Some c.item-item.result = slice_get_read c.args.items.now (length c.args.items.now) c.loop-item.item-index c.item-item.result refl (omega (arith, c.loop-item-test.true)) c.item-item.is in
    record {
      items =
          added_items c.args.table.now c.loop-item.table (map (λ n. n.items) c.args.entries.now) c.args.problem.now.points c.args.problem.now.clauses c.args.items.now c.loop-item.item-index c.item-item.result c.loop-item.numbers.items
          c.requires.entries at c.requires.right c.loop-item.invariant.items c.add_item.new.table c.in_ok-number.number c.push.new.self.items
          (subst (λ (ns : List ℕ). AddsItem c.loop-item.table (shelf_in c.loop-item.table (map (λ n. n.items) c.args.entries.now)) c.args.problem.now.clauses ns c.item-item.result c.add_item.new.table c.in_ok-number.number) c.as_slice.ensures.value c.in_ok-number.ensures.ok)
          c.in_ok-push.ensures.items;
      trees = trees_further c.args.trees c.args.table.now c.loop-item.table c.add_item.new.table c.loop-item.invariant.trees c.in_ok-number.ensures.trees;
      front = begins_table c.args.table.now c.loop-item.table c.add_item.new.table c.loop-item.invariant.front c.in_ok-number.ensures.front;
    }
