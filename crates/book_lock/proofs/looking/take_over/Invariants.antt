use Rattle.std.proofs.Common.{length, ◌-◌, ◌≡◌, ◌≤◌, map, take, vec_len}
use Rattle.std.specs.Arc.{arc_value}
use Rattle.refute_tree.specs.declared.lemma.Lemma.{Lemma as Stated}
use Rattle.book_lock.proofs.looking.take_over.Given as goal

abbrev pub invariant-loop-k : goal.invariant-loop-k
invariant-loop-k l = record {
  count : vec_len l.lemmas ≡ l.k;
  low : vec_len l.fn.lemmas ≤ l.k;
  high : l.k ≤ length l.shared;
  front : take (vec_len l.fn.lemmas) l.lemmas.items ≡ l.fn.lemmas.items;
  same : map (λ a. arc_value {X = Stated} a) l.lemmas.items ≡ take l.k (map (λ a. arc_value {X = Stated} a) l.shared);
}

abbrev pub decreases-loop-k : goal.decreases-loop-k
decreases-loop-k l = length l.shared - l.k
