use Rattle.std.proofs.Common.{arith, subst, ◌≡◌, ℕ, length}
use Rattle.clause_form.specs.ClauseForm.{fresh_point}
use Rattle.clause_form.proofs.numbering.number_points.Goals as goal

pub returns-clause-points : goal.returns-clause-points
returns-clause-points c =
    let all : c.loop-is_inner.is_inner-index ≡ length c.args.inner.now = omega arith in
    λ numbers marks. subst (λ (n : ℕ). c.loop-is_inner.next ≡ fresh_point c.args.points numbers n) all (c.loop-is_inner.invariant.next numbers marks)
