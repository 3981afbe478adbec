use Rattle.std.proofs.Common.{◌≡◌, ℕ, length, map, take, Some, None}
use Rattle.std.specs.Prelude.{IfSome, slice_get, slice_index_or}
use Rattle.std.specs.List.{AllZip}
use Rattle.kept_lemmas.specs.declared.item.Item.{Item}
use Rattle.refute_tree.specs.declared.lemma.Lemma.{Lemma}
use Rattle.lemma_shelf.specs.code.Citing.{StandsFor, IsPickedBy}
use Rattle.lemma_shelf.specs.code.Walks.{shelf_in, Knows}
use Rattle.lemma_shelf.proofs.citing.items_for.Given as goal

abbrev pub invariant-loop-j : goal.invariant-loop-j
invariant-loop-j l = record {
  count : length l.items.items ≡ l.j;
  stand : AllZip (StandsFor (shelf_in l.table (map (λ n. n.items) l.entries)) l.problem.points l.problem.clauses) (take l.j l.lemmas) l.items.items;
  picked : (k : ℕ) (lemma : Lemma) (item : Item) → slice_get l.lemmas k ≡ Some lemma → slice_get l.items.items k ≡ Some item
      → IsPickedBy (shelf_in l.table (map (λ n. n.items) l.entries)) l.problem.points l.problem.clauses lemma (slice_index_or l.places k None) item;
  walk : IfSome l.walk (Knows l.table l.problem.clauses);
}
