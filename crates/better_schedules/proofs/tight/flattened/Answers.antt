use Rattle.std.proofs.Common.{subst, List}
use Rattle.stn_core.specs.declared.literal.Literal.{Literal}
use Rattle.stn_core.specs.Answer.{IsAnswer}
use Rattle.better_schedules.specs.code.Choices.{IsChoice}
use Rattle.better_schedules.proofs.Choosing.{no_cycle, flat}
use Rattle.better_schedules.proofs.tight.flattened.Goals as goal

pub unreachable-requires : goal.unreachable-requires
unreachable-requires c =
    let choice : IsChoice c.args.values.now c.args.problem.now.clauses c.in_ok-literals.literals.items = subst (λ (cs : List (List Literal)). IsChoice c.args.values.now cs c.in_ok-literals.literals.items) c.as_slice.ensures c.in_ok-literals.ensures in
    let a : IsAnswer c.args.problem.now.points c.in_ok-literals.literals.items c.in_ok-schedule.field-0 = subst (λ (ls : List Literal). IsAnswer c.args.problem.now.points ls c.in_ok-schedule.field-0) c.deref.ensures.value c.in_ok-schedule.ensures in
    no_cycle c.args.problem.now c.args.values.now c.in_ok-literals.literals.items choice c.cycle_law.ensures c.in_ok-schedule.field-0 c.in-Negative.field-0 a c.in-Negative.is

pub returns : goal.returns
returns c =
    let choice : IsChoice c.args.values.now c.args.problem.now.clauses c.in_ok-literals.literals.items = subst (λ (cs : List (List Literal)). IsChoice c.args.values.now cs c.in_ok-literals.literals.items) c.as_slice.ensures c.in_ok-literals.ensures in
    let a : IsAnswer c.args.problem.now.points c.in_ok-literals.literals.items c.in_ok-schedule.field-0 = subst (λ (ls : List Literal). IsAnswer c.args.problem.now.points ls c.in_ok-schedule.field-0) c.deref.ensures.value c.in_ok-schedule.ensures in
    flat c.args.problem.now c.args.values.now c.in_ok-literals.literals.items choice c.near_law.ensures c.width_law.ensures c.in_ok-schedule.field-0 c.in-Greatest.schedule a c.in-Greatest.is
