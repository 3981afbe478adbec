use Rattle.std.proofs.Common.{refl, sym, ap, subst, ◌∙◌}
use Rattle.cert_text.specs.declared.entry.Version.{Version}
use Rattle.cert_text.specs.declared.entry.Entry.TheVariants.{Unsat}
use Rattle.idl_term.specs.Contexts.{Context}
use Rattle.script_walk.specs.declared.walk.Walk.{Walk}
use Rattle.smt_script.specs.declared.state.Mode.TheVariants as mode
use Rattle.dtp_session.specs.code.Keeping.{IsShownIn}
use Rattle.dtp_session.specs.code.Sessions.{RefutesAgain}
use Rattle.dtp_session.proofs.Answering.{held_again, mode_is, refuted_again}
use Rattle.dtp_session.proofs.session.Session.refute_again.Goals as goal

pub returns-in-One-clause-checked : goal.returns-in-One-clause-checked
returns-in-One-clause-checked c = λ yes s x question holds asked.
    let p = c.args.self.now in
    refuted_again p _ s question x holds asked c.requires.unsat (c.settle.ensures.stands s holds.stands) refl refl (ap (λ (w : Walk). w.number) c.settle.ensures.rest)
    (λ lemmas. subst (λ (v : Version). IsShownIn v p.earlier question s.context (Unsat lemmas) p.items p.earlier) (sym c.in-One.is ∙ c.version.ensures) refl)
    (subst (λ (k : Context). RefutesAgain p.earlier k p.last) asked.active (held_again p s holds (mode_is p s mode.Unsat holds c.requires.unsat)))
