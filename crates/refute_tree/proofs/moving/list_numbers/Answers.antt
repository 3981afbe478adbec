use Rattle.std.proofs.Common.{◌≡◌, ◌+◌, ◌∷◌, ◌++◌, List, take, drop, length, slice_index_or, ap, ◌∙◌, sym}
use Rattle.std.proofs.lemmas.List.{drop_more}
use Rattle.refute_tree.specs.declared.kind.Kind.{Kind}
use Rattle.refute_tree.specs.declared.kind.Kind.TheVariants.{Path}
use Rattle.refute_tree.specs.code.Store.{small_by, large_by, used}
use Rattle.refute_tree.specs.Moves.{listed_number}
use Rattle.refute_tree.specs.code.MovedParts.{is_lemma, is_large_lemma, named_numbers}
use Rattle.refute_tree.proofs.MovedNumbers.{small_by_one, large_by_one, turn_left, turn_same}
use Rattle.refute_tree.proofs.moving.list_numbers.Goals as goal

pub loop-kind-preserved : goal.loop-kind-preserved
loop-kind-preserved c =
    let seen = c.args.seen in
    let numbers = c.args.numbers.now in
    let end = c.args.end in
    let i = c.loop-kind.kind-index in
    let kind : Kind = slice_index_or c.args.kinds.now i Path in
    let rest : List Kind = drop (i + 1) c.args.kinds.now in
    let e : drop i c.args.kinds.now ≡ kind ∷ rest = drop_more c.args.kinds.now i Path c.loop-kind-test.true in
    let h = c.loop-kind.invariant in
    let small_at = c.loop-kind.small_at in
    let small = c.loop-kind.small in
    let small_next = small_at + c.small_by-small_at.result in
    let small_whole = named_numbers small_by is_lemma (listed_number seen numbers end) c.args.kinds.now c.args.small.now in
    let small_left : small_at + used small_by (kind ∷ rest) ≡ length small = sym (ap (λ (ks : List Kind). small_at + used small_by ks) e) ∙ h.small_left in
    let small_on : small_next ≡ small_at + small_by kind = ap (λ n. small_at + n) c.small_by-small_at.ensures in
    let small_same : take small_at small ++ named_numbers small_by is_lemma (listed_number seen numbers end) (kind ∷ rest) (drop small_at small) ≡ small_whole =
    sym (ap (λ (ks : List Kind). take small_at small ++ named_numbers small_by is_lemma (listed_number seen numbers end) ks (drop small_at small)) e) ∙ h.small_same in
    let large_at = c.loop-kind.large_at in
    let large = c.loop-kind.large in
    let large_next = large_at + c.large_by-large_at.result in
    let large_whole = named_numbers large_by is_large_lemma (listed_number seen numbers end) c.args.kinds.now c.args.large.now in
    let large_left : large_at + used large_by (kind ∷ rest) ≡ length large = sym (ap (λ (ks : List Kind). large_at + used large_by ks) e) ∙ h.large_left in
    let large_on : large_next ≡ large_at + large_by kind = ap (λ n. large_at + n) c.large_by-large_at.ensures in
    let large_same : take large_at large ++ named_numbers large_by is_large_lemma (listed_number seen numbers end) (kind ∷ rest) (drop large_at large) ≡ large_whole =
    sym (ap (λ (ks : List Kind). take large_at large ++ named_numbers large_by is_large_lemma (listed_number seen numbers end) ks (drop large_at large)) e) ∙ h.large_same in
    let small_new = c.list_part.new.small in
    let large_new = c.list_part.new.large in
    let sb = small_by_one in
    let lb = large_by_one in
    record {
      small_left = turn_left small_by is_lemma sb (listed_number seen numbers end) kind rest small small_new small_whole small_at small_next small_left c.list_part.ensures.small small_on;
      large_left = turn_left large_by is_large_lemma lb (listed_number seen numbers end) kind rest large large_new large_whole large_at large_next large_left c.list_part.ensures.large large_on;
      small_same = turn_same small_by is_lemma sb (listed_number seen numbers end) kind rest small small_new small_whole small_at small_next small_left c.list_part.ensures.small small_on small_same;
      large_same = turn_same large_by is_large_lemma lb (listed_number seen numbers end) kind rest large large_new large_whole large_at large_next large_left c.list_part.ensures.large large_on large_same;
    }
