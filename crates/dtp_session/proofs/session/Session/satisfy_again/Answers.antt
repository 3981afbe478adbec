use Rattle.std.proofs.Common.{refl, sym, ap, ◌∙◌, List, Option}
use Rattle.stn_core.specs.declared.named.NamedValue.{NamedValue}
use Rattle.cert_text.specs.declared.entry.Version.{Version}
use Rattle.script_walk.specs.declared.walk.Walk.{Walk}
use Rattle.dtp_session.specs.code.Forms.{schedule_shown}
use Rattle.dtp_session.specs.code.Keeping.{passed}
use Rattle.dtp_session.proofs.Answering.{satisfied_again}
use Rattle.dtp_session.proofs.session.Session.satisfy_again.Goals as goal

pub returns-clause-checked : goal.returns-clause-checked
returns-clause-checked c = λ s x holds asked.
    satisfied_again c.args.self.now _ s x c.in-Some.found _ holds asked c.requires.sat (sym c.take.ensures.value ∙ c.in-Some.is) (λ schedule e. c.satisfying.ensures schedule (ap (λ (given : Option (List NamedValue)). schedule_shown given c.in-Some.found) c.take-2.ensures.value ∙ e))
    (c.settle.ensures.stands s holds.stands) refl refl
    (ap (λ (w : Walk). w.number) c.settle.ensures.rest) (c.in_ok-pass.ensures ∙ ap (λ (v : Version). passed v c.args.self.now.earlier) c.version.ensures)
