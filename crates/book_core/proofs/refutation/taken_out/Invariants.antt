use Rattle.std.proofs.Common.{◌≡◌, ◌++◌, length, map, take}
use Rattle.std.specs.Arc.{arc_value}
use Rattle.refute_tree.specs.declared.lemma.Lemma.{Lemma as Stated}
use Rattle.book_core.proofs.refutation.taken_out.Given as goal

abbrev pub invariant-loop-lemma : goal.invariant-loop-lemma
invariant-loop-lemma l = record {
  counted : length l.lemma-iterator.rest.items ≡ l.lemma-iterator.rest.len;
  built : l.all.items ++ map (λ a. arc_value {X = Stated} a) l.lemma-iterator.rest.items ≡ take l.fn.count (map (λ a. arc_value {X = Stated} a) l.fn.lemmas.items);
}
