use Rattle.std.proofs.Common.{refl, ap, Some, ◌∙◌}
use Rattle.cert_text.specs.declared.entry.Version.{Version}
use Rattle.script_walk.specs.declared.walk.Walk.{Walk}
use Rattle.dtp_session.specs.code.Keeping.{passed}
use Rattle.dtp_session.proofs.Answering.{satisfied_by}
use Rattle.dtp_session.proofs.session.Session.satisfy_by.Goals as goal

pub returns-clause-checked : goal.returns-clause-checked
returns-clause-checked c = λ s x holds asked satisfies within.
    satisfied_by c.args.self.now.walk.state c.args.self.now _ s x c.args.values holds.stands asked satisfies within (c.settle.ensures.stands s holds.stands) (ap Some c.shown.ensures) refl c.clear.ensures.items
    (ap (λ (w : Walk). w.number) c.settle.ensures.rest) (c.in_ok-pass.ensures ∙ ap (λ (v : Version). passed v c.args.self.now.earlier) c.version.ensures)
