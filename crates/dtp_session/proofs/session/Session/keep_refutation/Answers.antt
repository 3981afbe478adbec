use Rattle.std.proofs.Common.{refl, sym, ap, subst, List, []}
use Rattle.cert_text.specs.declared.entry.Version.{Version}
use Rattle.cert_text.specs.declared.entry.Entry.TheVariants.{Unsat}
use Rattle.idl_term.specs.Contexts.{Context}
use Rattle.refute_tree.specs.declared.lemma.Lemma.{Lemma}
use Rattle.script_walk.specs.declared.walk.Walk.{Walk}
use Rattle.smt_script.specs.declared.state.Mode.TheVariants as mode
use Rattle.smt_script.specs.States.{State, asked_of}
use Rattle.dtp_entry.specs.Entries.{points_of, problem_of}
use Rattle.dtp_entry.specs.Reports.{version_of}
use Rattle.dtp_session.specs.code.Keeping.{IsShownIn, IsAgain}
use Rattle.dtp_session.specs.code.Sessions.{RefutesAgain}
use Rattle.dtp_session.proofs.Answering.{held_again, mode_is, refuted_again}
use Rattle.dtp_session.proofs.Keeping.{again_shows, refutes_again}
use Rattle.dtp_session.proofs.session.Session.keep_refutation.Goals as goal

pub again-requires : goal.again-requires
again-requires c =
    let p = c.args.self.now in
    let s : State = c.requires.holds.0 in
    let holds = c.requires.holds.1 in
    let right = subst (RefutesAgain p.earlier (asked_of s)) c.in-Some.is (held_again p s holds (mode_is p s mode.Unsat holds c.requires.unsat)) in
    (points_of (asked_of s), problem_of (asked_of s), right)

pub returns-clause-checked : goal.returns-clause-checked
returns-clause-checked c = λ yes s x question holds asked.
    let p = c.args.self.now in
    let now = c.again.new.self in
    let held = subst (λ (k : Context). RefutesAgain p.earlier k p.last) asked.active (held_again p s holds (mode_is p s mode.Unsat holds c.requires.unsat)) in
    let right = subst (RefutesAgain p.earlier s.context) c.in-Some.is held in
    let one = subst (IsAgain p.earlier (points_of s.context) (problem_of s.context) now) c.in-Some-2.is (c.in_ok-items.ensures.again (points_of s.context) (problem_of s.context) right) in
    let shows : (lemmas : List Lemma) → IsShownIn (version_of p.report) p.earlier question s.context (Unsat lemmas) c.in-Some-2.items now = λ lemmas. subst (λ (v : Version). IsShownIn v p.earlier question s.context (Unsat lemmas) c.in-Some-2.items now) (sym c.requires.version)
    (again_shows p.earlier now question s.context (points_of s.context) (problem_of s.context) lemmas c.in-Some-2.items refl refl one) in
    refuted_again p _ s question x holds asked c.requires.unsat (c.settle.ensures.stands s holds.stands) refl refl (ap (λ (w : Walk). w.number) c.settle.ensures.rest)
    shows
    (refutes_again _ p.earlier now question s.context (Unsat []) [] c.in-Some-2.items _ refl c.last_item-self.ensures (shows []))
