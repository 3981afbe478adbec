use Rattle.std.proofs.Common.{sym, subst, ℕ, All}
use Rattle.std.specs.List.Sorted.{IsNonDecreasing}
use Rattle.std.specs.Prelude.{IsPermutation}
use Rattle.std.proofs.lemmas.List.Sorted.{All-permutation, IsPermutation-sym, IsNonDecreasingBy-from_sort}
use Rattle.better_schedules.specs.code.Heights.{IsApart}
use Rattle.better_schedules.proofs.ascent.reach.Goals as goal

pub climb-requires-clause-sorted : goal.climb-requires-clause-sorted
climb-requires-clause-sorted c = subst IsNonDecreasing (sym c.deref.ensures.value) (IsNonDecreasingBy-from_sort (λ (x : ℕ). x) c.sort.new.self.items c.in_ok-sort.ensures.sorted)

pub returns-clause-apart : goal.returns-clause-apart
returns-clause-apart c =
    let apart : All (IsApart c.climb.result c.args.width) c.sort.new.self.items = subst (All (IsApart c.climb.result c.args.width)) c.deref.ensures.value c.climb.ensures.apart in
    let back : IsPermutation c.sort.new.self.items c.in_ok-sorted.sorted.items = IsPermutation-sym c.in_ok-sorted.sorted.items c.sort.new.self.items c.in_ok-sort.ensures.permutation in
    subst (All (IsApart c.climb.result c.args.width)) c.in_ok-sorted.ensures.items (All-permutation (IsApart c.climb.result c.args.width) c.sort.new.self.items c.in_ok-sorted.sorted.items back apart)
