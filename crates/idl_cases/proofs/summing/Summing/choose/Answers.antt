use Rattle.idl_cases.specs.declared.summing.Signed.{Signed}
use Rattle.idl_cases.proofs.SumSteps.{chosen_holds, chosen_sum}
use Rattle.idl_cases.proofs.summing.Summing.choose.Goals as goal

pub invariant_of-self-2 : goal.invariant_of-self-2
invariant_of-self-2 c =
    let x : Signed = record { is_negated = c.args.is_negated; choices = c.args.choices } in
    chosen_holds c.self.inside.start c.self.inside.choices.items c.push.new.self.items x c.self.inside.count c.saturating_mul-count.result c.len.result c.bounds.result
    c.in_ok-push.ensures.items c.len.ensures.count c.len.ensures.many c.bounds.ensures.each c.saturating_mul-count.ensures c.self.invariant

pub returns : goal.returns
returns c =
    let x : Signed = record { is_negated = c.args.is_negated; choices = c.args.choices } in
    chosen_sum c.args.self.now c.self.inside.start c.self.inside.choices.items c.push.new.self.items x c.self.view_is c.in_ok-push.ensures.items
