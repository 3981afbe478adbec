use Rattle.std.proofs.Common.{refl, ap, ◌∙◌, List, Bool, false, get_or}
use Rattle.dtp_session.proofs.Saying.{core_is, told_lemmas, told_held, core_flags, assumed_some}
use Rattle.dtp_session.proofs.session.Session.tell_core.Goals as goal

pub returns-in_ok-core_text-in-Some-clause-told : goal.returns-in_ok-core_text-in-Some-clause-told
returns-in_ok-core_text-in-Some-clause-told c = λ s x holds may.
    let p = c.args.self.now in
    let unsat = may.core refl in
    let there = assumed_some p.walk.state s holds.stands c.in-Some.ensures.0 in
    core_is p.held s x (told_lemmas p s holds unsat) c.as_slice.result.now (told_held p s holds unsat) p.text.items c.core_text.new.out.items c.requires.empty p.walk.state holds.stands
    (λ r. ap (λ (bs : List Bool). get_or bs r false) c.as_slice.ensures.value ∙ core_flags p s holds unsat there.1 there.2 r)
    c.in_ok-core_text-in-Some.ensures.ok
