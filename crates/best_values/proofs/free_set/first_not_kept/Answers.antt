use Rattle.std.proofs.Common.{ℕ, Bool, List, sym, subst, length, ◌≤◌}
use Rattle.stn_core.specs.declared.literal.Literal.{Literal}
use Rattle.best_values.specs.FreeSets.{AreMarks}
use Rattle.best_values.proofs.Keeping.{first_not_kept, one_more_kept, all_kept}
use Rattle.best_values.proofs.free_set.first_not_kept.Goals as goal

pub returns-then-not-clause_is_kept : goal.returns-then-not-clause_is_kept
returns-then-not-clause_is_kept c =
    let marked : AreMarks c.args.problem.now.points c.args.set.now c.deref.result.now = subst (λ (marks : List Bool). AreMarks c.args.problem.now.points c.args.set.now marks) (sym c.deref.ensures.value) c.in_ok-marks.ensures in
    let are : AreMarks (length c.args.values.now) c.args.set.now c.deref.result.now = subst (λ (n : ℕ). AreMarks n c.args.set.now c.deref.result.now) (sym c.requires.count) marked in
    first_not_kept c.args.values.now c.args.set.now c.args.problem.now.clauses _ _ _ _ _ c.as_slice-clause-items.ensures c.loop-number-test.true c.clause-item.is c.as_slice.ensures (c.clause_is_kept.ensures c.args.set.now are) c.loop-number.invariant c.if-not-clause_is_kept.true

pub loop-number-preserved : goal.loop-number-preserved
loop-number-preserved c =
    let marked : AreMarks c.args.problem.now.points c.args.set.now c.deref.result.now = subst (λ (marks : List Bool). AreMarks c.args.problem.now.points c.args.set.now marks) (sym c.deref.ensures.value) c.in_ok-marks.ensures in
    let are : AreMarks (length c.args.values.now) c.args.set.now c.deref.result.now = subst (λ (n : ℕ). AreMarks n c.args.set.now c.deref.result.now) (sym c.requires.count) marked in
    one_more_kept c.args.values.now c.args.set.now c.args.problem.now.clauses _ _ _ _ _ c.as_slice-clause-items.ensures c.loop-number-test.true c.clause-item.is c.as_slice.ensures (c.clause_is_kept.ensures c.args.set.now are) c.loop-number.invariant c.if-not-clause_is_kept.false

pub returns : goal.returns
returns c = all_kept c.args.values.now c.args.set.now c.args.problem.now.clauses c.loop-number.number c.loop-number.invariant (subst (λ (cs : List (List Literal)). length cs ≤ c.loop-number.number) c.as_slice-clause-items.ensures c.loop-number-test.false)
