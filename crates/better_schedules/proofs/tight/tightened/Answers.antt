use Rattle.std.proofs.Common.{◌≡◌, ◌∙◌, ◌+◌, subst, List, take, ap, ℤ}
use Rattle.stn_core.specs.declared.literal.Literal.{Literal}
use Rattle.stn_core.specs.Answer.{IsAnswer}
use Rattle.better_schedules.specs.code.Choices.{IsChoice}
use Rattle.better_schedules.proofs.Choosing.{tight}
use Rattle.better_schedules.proofs.tight.tightened.Goals as goal

pub returns-in-Greatest : goal.returns-in-Greatest
returns-in-Greatest c =
    let choice : IsChoice c.args.values.now c.args.problem.now.clauses c.in_ok-literals.literals.items = subst (λ (cs : List (List Literal)). IsChoice c.args.values.now cs c.in_ok-literals.literals.items) c.as_slice.ensures c.in_ok-literals.ensures in
    let a : IsAnswer (c.args.problem.now.points + 2) c.push-2.new.self.items c.in_ok-schedule.field-0 = subst (λ (ls : List Literal). IsAnswer (c.args.problem.now.points + 2) ls c.in_ok-schedule.field-0) c.deref.ensures.value c.in_ok-schedule.ensures in
    let result_is : c.new.result ≡ take c.args.problem.now.points c.in-Greatest.schedule = c.new.ensures ∙ (c.truncate.ensures.items ∙ ap (λ (vs : List ℤ). take c.args.problem.now.points vs) c.into_vec-values.ensures) in
    tight c.args.problem.now c.args.values.now c.in_ok-literals.literals.items choice _ _ c.push.new.self.items c.push-2.new.self.items c.in_ok-schedule.field-0 c.in-Greatest.schedule c.new.result c.in_ok-push.ensures.items c.in_ok-push-2.ensures.items a c.in-Greatest.is result_is
