use Rattle.std.proofs.Common.{ap, ◌∙◌, ◌≡◌}
use Rattle.idl_cases.specs.code.CaseSums.{added_each, pair_sum, signed_cases, signed_linear, summed_cases, Summed}
use Rattle.idl_cases.specs.code.CasePlaces.{signed_lists}
use Rattle.idl_cases.proofs.Going.{on_better}
use Rattle.idl_cases.proofs.SumSteps.{start_ends, start_holds, start_moved_more, start_plain, with_start}
use Rattle.idl_cases.proofs.summing.Summing.add.Goals as goal

pub invariant_of-self : goal.invariant_of-self
invariant_of-self c =
    let old : Summed = record { start = c.self.inside.start; choices = signed_lists c.self.inside.choices.items } in
    start_ends c.push.result old c.self.inside.count c.push.new.self c.args.is_negated c.in-Plain.linear.now c.push.ensures.pushed c.push.ensures.err c.push.ensures.linear c.self.invariant

pub returns-in-Plain : goal.returns-in-Plain
returns-in-Plain c =
    let old : Summed = record { start = c.self.inside.start; choices = signed_lists c.self.inside.choices.items } in
    let s = c.args.is_negated in
    let l = c.in-Plain.linear.now in
    let term = signed_cases s c.args.term.now in
    on_better c.push.result (c.push.new.self ≡ record { guards = old.start.guards; linear = pair_sum old.start.linear (signed_linear s l) }) (summed_cases (with_start old c.push.new.self) ≡ added_each (summed_cases c.args.self.now) term)
    (λ e. start_plain old c.self.inside.count c.self.invariant c.push.new.self s l c.push.ensures.linear e c.args.term.now c.in-Plain.ensures ∙ ap (λ (v : Summed). added_each (summed_cases v) term) c.self.view_is) c.push.ensures.pushed

pub invariant_of-self-in-Moved : goal.invariant_of-self-in-Moved
invariant_of-self-in-Moved c =
    let old : Summed = record { start = c.self-in-Moved.inside.start; choices = signed_lists c.self-in-Moved.inside.choices.items } in
    start_holds old c.self-in-Moved.inside.count c.self-in-Moved.invariant c.push-in-Moved.new.self c.args.is_negated c.in-Moved.by.now c.push-in-Moved.ensures.linear c.in_ok-push-in-Moved.ensures.pushed

pub returns-in_ok-push-in-Moved : goal.returns-in_ok-push-in-Moved
returns-in_ok-push-in-Moved c =
    let old : Summed = record { start = c.self-in-Moved.inside.start; choices = signed_lists c.self-in-Moved.inside.choices.items } in
    let s = c.args.is_negated in
    let l = c.in-Moved.by.now in
    let term = signed_cases s c.args.term.now in
    let mid = with_start old c.push-in-Moved.new.self in
    let is = c.in-Moved.ensures in
    on_better c.choose-in-Moved.result (summed_cases c.choose-in-Moved.new.self ≡ added_each (summed_cases mid) (signed_cases s c.in-Moved.choices.now)) (summed_cases c.choose-in-Moved.new.self ≡ added_each (summed_cases c.args.self.now) term)
    (λ e. e ∙ start_moved_more old c.self-in-Moved.inside.count c.self-in-Moved.invariant c.push-in-Moved.new.self s l c.push-in-Moved.ensures.linear c.in_ok-push-in-Moved.ensures.pushed c.args.term.now c.in-Moved.choices.now is.0 is.2
    ∙ ap (λ (v : Summed). added_each (summed_cases v) term) c.self-in-Moved.view_is) c.choose-in-Moved.ensures
