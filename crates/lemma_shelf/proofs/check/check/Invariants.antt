use Rattle.std.proofs.Common.{◌≡◌, map, drop}
use Rattle.std.specs.Prelude.{IfSome}
use Rattle.lemma_shelf.specs.ItemFlaws.{items_flaw_from, items_flaw}
use Rattle.lemma_shelf.specs.code.Walks.{shelf_in, Knows}
use Rattle.lemma_shelf.proofs.check.check.Given as goal

abbrev pub invariant-loop-item : goal.invariant-loop-item
invariant-loop-item l = record {
  rest : items_flaw_from (shelf_in l.table (map (λ n. n.items) l.entries)) l.problem.points l.problem.clauses l.stated (drop l.item-index l.items) ≡ items_flaw (shelf_in l.table (map (λ n. n.items) l.entries)) l.problem.points l.problem.clauses l.items;
  walk : IfSome l.walk (Knows l.table l.problem.clauses);
}
