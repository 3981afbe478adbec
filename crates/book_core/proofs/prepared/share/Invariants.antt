use Rattle.std.proofs.Common.{◌≡◌, ◌++◌, length, map}
use Rattle.std.specs.Arc.{arc_value}
use Rattle.refute_tree.specs.declared.lemma.Lemma.{Lemma as Stated}
use Rattle.book_core.proofs.prepared.share.Given as goal

abbrev pub invariant-loop-lemma : goal.invariant-loop-lemma
invariant-loop-lemma l = record {
  counted : length l.lemma-iterator.rest.items ≡ l.lemma-iterator.rest.len;
  built : map (λ a. arc_value {X = Stated} a) l.shared.items ++ l.lemma-iterator.rest.items ≡ l.fn.lemmas.items;
}
