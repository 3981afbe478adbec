use Rattle.std.proofs.Common.{rules, arith, ◌≡◌, ◌<◌, ◌+◌, length, drop, pos, ◌+ℤ◌, ◌<ℤ◌, FitsSigned, slice_index, slice_index_or}
use Rattle.std.specs.Int.{w32}
use Rattle.std.proofs.lemmas.Int.{ints, to_z-of_z}
use Rattle.std.proofs.lemmas.List.{at_drop_more, at_drop_all}
use Rattle.std.proofs.lemmas.Bool.Decides.{nat_tests}
use Rattle.refute_tree.proofs.PathParts.{sum_of, negative_is, negative_sum, negative_some, negative_closed}
use Rattle.refute_tree.proofs.cycle.is_negative_path.Goals as goal

pub returns-then-is_empty : goal.returns-then-is_empty
returns-then-is_empty c =
    let none : length c.args.bounds.now ≡ 0 = grind (arith, nat_tests) in
    (λ h. cc, λ n. absurd (omega (arith, none, negative_some c.args.points.now c.args.bounds.now c.requires n)))

pub loop-bound-preserved : goal.loop-bound-preserved
loop-bound-preserved c =
    let xs = c.args.bounds.now in
    let i = c.loop-bound.bound-index in
    let next : sum_of (drop i xs) ≡ slice_index_or xs i (pos 0) +ℤ sum_of (drop (i + 1) xs) = at_drop_more sum_of xs i (pos 0) c.loop-bound-test.true in
    let fits : FitsSigned w32 (slice_index_or xs i (pos 0)) = search rules in
    let added : c.from-sum.result ≡ slice_index_or xs i (pos 0) = simp to_z-of_z at c.from-sum.ensures in
    record { rest = omega (arith, ints, next, added); above = omega (arith, ints, added); below = omega (arith, ints, added) }

pub returns-then-points-bounds : goal.returns-then-points-bounds
returns-then-points-bounds c =
    let xs = c.args.bounds.now in
    let ps = c.args.points.now in
    let ends : sum_of (drop c.loop-bound.bound-index xs) ≡ pos 0 = at_drop_all sum_of xs c.loop-bound.bound-index (omega arith) in
    let sum : c.loop-bound.sum ≡ sum_of xs = omega (arith, ints, ends) in
    let some : 0 < length xs = grind (arith, nat_tests) in
    let closed : slice_index ps 0 ≡ slice_index ps (length xs) = search rules in (
      λ t. (let negative : sum_of xs <ℤ pos 0 = grind (arith, ints, sum) in negative_is ps xs c.requires some closed negative),
      λ n. (let negative = negative_sum ps xs c.requires n in grind (arith, ints, sum, negative)),
    )

pub returns-else-points-bounds : goal.returns-else-points-bounds
returns-else-points-bounds c =
    let ps = c.args.points.now in
    let xs = c.args.bounds.now in (
      λ h. (let same : slice_index ps 0 ≡ slice_index ps (length xs) = search rules in absurd (c.if-points-bounds.false same)),
      λ n. absurd (c.if-points-bounds.false (negative_closed ps xs c.requires n)),
    )
