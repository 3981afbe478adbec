use Rattle.std.proofs.Common.{rules, subst, sym, ap, ◌∙◌, ◌≡◌, [], length, ◌∷◌, ◌++◌, vec_len}
use Rattle.stn_core.specs.Literal.{IsOver}
use Rattle.stn_core.specs.Answer.{IsBest}
use Rattle.stn_core.specs.RoundsNet.{Shown}
use Rattle.stn_core.proofs.Nets.{keeps_more, popped, schedule_answered, cycle_answered}
use Rattle.stn_core.proofs.rounds_net.RoundsNetNet.add.Goals as goal

pub invariant_of-self-in-Ok : goal.invariant_of-self-in-Ok
invariant_of-self-in-Ok c =
    let literals = c.self.inside.literals.items in
    let found : IsBest c.self.inside.points (c.self.inside.literals.items ++ c.args.literal ∷ []) c.in-Ok-Greatest.schedule =
    schedule_answered c.self.inside.points c.deref.result.now _ c.in-Ok-Greatest.field-0 c.in-Ok-Greatest.schedule c.in-Ok-Greatest.ensures (c.deref.ensures.value ∙ c.in_ok-push.ensures.items) c.in-Ok-Greatest.field-0-is in
    let over : IsOver c.self.inside.points c.args.literal = subst (λ (s : Shown). IsOver s.points c.args.literal) (sym c.self.view_is) c.requires in
    rw (c.in_ok-push.ensures.items, c.in-Ok.ensures.items) (keeps_more c.self.inside.points literals c.self.inside.schedules.items c.args.literal c.in-Ok-Greatest.schedule c.self.invariant over found)

pub returns-in-Ok-Negative-clause-ok : goal.returns-in-Ok-Negative-clause-ok
returns-in-Ok-Negative-clause-ok c =
    let shown : c.args.self.now.literals ≡ c.self.inside.literals.items = sym (ap (λ (s : Shown). s.literals) c.self.view_is) in
    let found = cycle_answered c.self.inside.points c.deref.result.now (c.self.inside.literals.items ++ c.args.literal ∷ []) c.in-Ok-Negative.field-0 c.in-Ok-Negative.cycle c.in-Ok-Negative.ensures (c.deref.ensures.value ∙ c.in_ok-push.ensures.items) c.in-Ok-Negative.field-0-is in
    let length_is : vec_len c.push.new.self ≡ length c.push.new.self.items = search rules in
    rw shown (c.pop-in-Ok-Negative.ensures.rest ∙ popped c.self.inside.literals.items c.push.new.self.items c.args.literal (vec_len c.push.new.self) c.in_ok-push.ensures.items length_is, found)
