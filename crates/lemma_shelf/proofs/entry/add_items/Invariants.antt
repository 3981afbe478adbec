use Rattle.std.proofs.Common.{map, take}
use Rattle.lemma_shelf.specs.code.Additions.{HasItems}
use Rattle.lemma_shelf.specs.code.Walks.{shelf_in, KeepsTrees, BeginsTable}
use Rattle.lemma_shelf.proofs.entry.add_items.Given as goal

abbrev pub invariant-loop-item : goal.invariant-loop-item
invariant-loop-item l = record {
  items : HasItems l.fn.table (shelf_in l.fn.table (map (λ n. n.items) l.entries)) l.problem.clauses (take l.item-index l.items) l.table l.numbers.items;
  trees : KeepsTrees l.trees l.fn.table l.table;
  front : BeginsTable l.fn.table l.table;
}
