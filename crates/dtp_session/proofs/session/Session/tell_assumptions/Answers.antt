use Rattle.std.proofs.Common.{refl, ap, ◌∙◌, ◌≡◌, ℕ, List, [], drop, length}
use Rattle.std.proofs.lemmas.List.{take_rest}
use Rattle.dtp_session.proofs.Saying.{assumptions_are, told_lemmas, told_held, assumed_flags, assumed_some, literals_are}
use Rattle.dtp_session.proofs.session.Session.tell_assumptions.Goals as goal

pub returns-clause-told : goal.returns-clause-told
returns-clause-told c = λ s x holds may.
    let p = c.args.self.now in
    let unsat = (may.assumptions refl).0 in
    let there = assumed_some p.walk.state s holds.stands c.in-Some.ensures.0 in
    let active = length c.roots-active.result.now in
    let many : active ≡ length s.context.roots = ap (λ (ks : List ℕ). length ks) (c.roots-active.ensures ∙ holds.stands.stands.roots) in
    let rest : _ ≡ drop active p.cited.items = take_rest c.as_slice-cited.result.now active ∙ ap (drop active) c.as_slice-cited.ensures.value in
    assumptions_are p.held s x (told_lemmas p s holds unsat) [] (told_held p s holds unsat) p.text.items c.assumptions_text.new.out.items c.requires.empty there.1 _ _ there.2
    (assumed_flags p s holds unsat there.1 active _ there.2 many rest) (literals_are p.walk.state there.0 there.1 c.in-Some.literals.now there.3 c.in-Some.ensures.1)
    c.in_ok-assumptions_text.ensures.ok
