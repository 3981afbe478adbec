use Rattle.std.proofs.Common.{◌≡◌, ◌+◌, ◌++◌, length, take, drop}
use Rattle.refute_tree.specs.Moves.{listed_number}
use Rattle.refute_tree.specs.code.MovedParts.{named_numbers, is_lemma, is_large_lemma}
use Rattle.refute_tree.specs.code.Store.{small_by, large_by, used}
use Rattle.refute_tree.proofs.moving.list_numbers.Given as goal

abbrev pub invariant-loop-kind : goal.invariant-loop-kind
invariant-loop-kind l = record {
  small_left : l.small_at + used small_by (drop l.kind-index l.kinds) ≡ length l.small;
  large_left : l.large_at + used large_by (drop l.kind-index l.kinds) ≡ length l.large;
  small_same : take l.small_at l.small ++ named_numbers small_by is_lemma (listed_number l.seen l.numbers l.end) (drop l.kind-index l.kinds) (drop l.small_at l.small) ≡ named_numbers small_by is_lemma (listed_number l.seen l.numbers l.end) l.kinds l.initial.small;
  large_same : take l.large_at l.large ++ named_numbers large_by is_large_lemma (listed_number l.seen l.numbers l.end) (drop l.kind-index l.kinds) (drop l.large_at l.large) ≡ named_numbers large_by is_large_lemma (listed_number l.seen l.numbers l.end) l.kinds l.initial.large;
}
