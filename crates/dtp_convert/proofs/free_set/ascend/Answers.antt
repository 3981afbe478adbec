use Rattle.std.proofs.Common.{◌≡◌, ◌+◌, ◌-◌, ◌<◌, ℕ, subst, arith, slice_index, below_more}
use Rattle.std.proofs.lemmas.Bool.Decides.{nat_tests}
use Rattle.dtp_convert.proofs.free_set.ascend.Goals as goal

pub loop-k-preserved : goal.loop-k-preserved
loop-k-preserved c =
    let set = c.args.set.now in
    let k = c.loop-k.k in
    let here : 0 < k → slice_index set (k - 1) < slice_index set k = λ some. grind (arith, nat_tests, c.if-set-k.false) in
    below_more (λ (j : ℕ). 0 < j → slice_index set (j - 1) < slice_index set j) k c.loop-k.invariant here

pub returns : goal.returns
returns c = λ yes k lt.
    let set = c.args.set.now in
    let back : (k + 1) - 1 ≡ k = omega arith in
    subst (λ (i : ℕ). slice_index set i < slice_index set (k + 1)) back (c.loop-k.invariant (k + 1) (omega (arith, lt, c.loop-k-test.false)) (omega arith))
