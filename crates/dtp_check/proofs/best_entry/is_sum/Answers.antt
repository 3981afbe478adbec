use Rattle.std.proofs.Common.{arith, ◌≡◌, sym, subst, ℤ, ◌+ℤ◌, ◌-ℤ◌, FitsSigned, to_z, of_z}
use Rattle.std.specs.Int.{w128}
use Rattle.std.proofs.lemmas.Int.{ints}
use Rattle.dtp_check.proofs.Leasts.{sum_is, no_sum}
use Rattle.dtp_check.proofs.best_entry.is_sum.Goals as goal

pub returns-in-Some-checked_add : goal.returns-in-Some-checked_add
returns-in-Some-checked_add c =
    let offset = c.from-offset.ensures in
    let rest = c.in-Some.ensures in
    let sum = c.in-Some-checked_add.ensures in
    let value : c.in-Some-checked_add.sum ≡ (c.args.x -ℤ c.args.y) +ℤ c.args.k = omega (arith, ints, offset, rest.1, sum.1) in
    sum_is ((c.args.x -ℤ c.args.y) +ℤ c.args.k) c.in-Some-checked_add.sum c.args.m (subst (λ (z : ℤ). FitsSigned w128 z) (sym sum.1) sum.0) c.ranges.m value

pub returns-in-Some-checked_sub : goal.returns-in-Some-checked_sub
returns-in-Some-checked_sub c =
    let offset = c.from-offset.ensures in
    let sum = c.in-Some-checked_add-2.ensures in
    let rest = c.in-Some-checked_sub.ensures in
    let value : c.in-Some-checked_sub.rest ≡ (c.args.x -ℤ c.args.y) +ℤ c.args.k = omega (arith, ints, offset, rest.1, sum.1) in
    sum_is ((c.args.x -ℤ c.args.y) +ℤ c.args.k) c.in-Some-checked_sub.rest c.args.m (subst (λ (z : ℤ). FitsSigned w128 z) (sym rest.1) rest.0) c.ranges.m value

pub returns-in-None-checked_sub : goal.returns-in-None-checked_sub
returns-in-None-checked_sub c =
    let offset = c.from-offset.ensures in
    let sum = c.in-Some-checked_add-2.ensures in
    let read : ℤ = to_z w128 (of_z w128 c.in-Some-checked_add-2.sum) -ℤ to_z w128 (of_z w128 c.args.y) in
    let value : read ≡ (c.args.x -ℤ c.args.y) +ℤ c.args.k = omega (arith, ints, offset, sum.1) in
    no_sum ((c.args.x -ℤ c.args.y) +ℤ c.args.k) read c.args.m c.ranges.m value c.in-None-checked_sub.ensures
