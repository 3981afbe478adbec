use Rattle.std.proofs.Common.{refl, sym, ap, subst, ◌∙◌, ◌≡◌, ◌+◌, List, []}
use Rattle.refute_tree.specs.declared.lemma.Lemma.{Lemma}
use Rattle.cert_text.specs.declared.entry.Entry.TheVariants.{Unsat}
use Rattle.dtp_session.specs.code.Sessions.{RefutesAgain}
use Rattle.smt_script.specs.States.{settled}
use Rattle.smt_script.specs.declared.state.Satisfiability.{Satisfiability}
use Rattle.script_walk.specs.code.Standing.{Stands}
use Rattle.script_walk.specs.declared.walk.Walk.{Walk}
use Rattle.dtp_entry.specs.Reports.{version_of}
use Rattle.dtp_session.specs.declared.session.Session.{Session}
use Rattle.kept_lemmas.specs.Facts.{Shelf}
use Rattle.cert_text.specs.declared.entry.Version.{Version}
use Rattle.dtp_session.specs.code.Forms.{version_wanted}
use Rattle.dtp_session.specs.code.Keeping.{IsShownIn}
use Rattle.dtp_session.proofs.Answering.{decided_anew}
use Rattle.dtp_session.proofs.Keeping.{refutes_again}
use Rattle.dtp_session.proofs.session.Session.decide_anew.Goals as goal

pub cited_by-requires : goal.cited_by-requires
cited_by-requires g c =
    let holds = c.requires.holds in
    let walk = ap (λ (p : Session). p.walk) c.keep_schedule.ensures ∙ ap (λ (p : Session). p.walk) c.wanted-wanted.ensures.same in
    (holds.0, subst (λ (w : Walk). Stands w.state holds.0) (sym walk) holds.2.stands)

pub returns-clause-checked : goal.returns-clause-checked
returns-clause-checked g c = λ s x holds asked taken.
    let same = c.wanted-wanted.ensures.same in
    let aside = c.keep_schedule.ensures in
    let walk : c.wanted-wanted.new.self.walk ≡ c.args.self.now.walk = ap (λ (p : Session). p.walk) same in
    let later : c.keep_schedule.new.self.walk ≡ c.args.self.now.walk = ap (λ (p : Session). p.walk) aside ∙ walk in
    let report : c.keep_schedule.new.self.report ≡ c.args.self.now.report = ap (λ (p : Session). p.report) aside ∙ ap (λ (p : Session). p.report) same in
    let there = subst (λ (w : Walk). Stands w.state s) (sym walk) holds.stands in
    let there_later = subst (λ (w : Walk). Stands w.state s) (sym later) holds.stands in
    let version : version_wanted c.wanted-wanted.result ≡ version_of c.keep_schedule.new.self.report = c.wanted-wanted.ensures.version ∙ sym (ap version_of report) in
    let stands = subst (λ (v : Satisfiability). Stands c.settle.new.self.state (settled v s)) c.verdict.ensures (c.settle.ensures.stands s there_later) in
    let marks : c.keep_schedule.new.self.marks.items ≡ [] = ap (λ (p : Session). p.marks.items) aside ∙ ap (λ (p : Session). p.marks.items) same ∙ c.clear.ensures.items in
    let decided = c.in_ok-shown.ensures s x there taken in
    let before : c.wanted-wanted.new.self.earlier ≡ c.args.self.now.earlier = ap (λ (p : Session). p.earlier) same in
    let behind : c.keep_schedule.new.self.earlier ≡ c.decide.new.earlier = ap (λ (p : Session). p.earlier) aside in
    let shows = subst (λ (v : Version). IsShownIn v c.wanted-wanted.new.self.earlier c.args.question s.context c.in_ok-shown.field-0.shown.found c.in_ok-shown.field-0.shown.items c.decide.new.earlier) refl decided.shows in
    let shows_now = subst (λ (k : Shelf). IsShownIn (version_wanted c.wanted-wanted.result) c.args.self.now.earlier c.args.question s.context c.in_ok-shown.field-0.shown.found c.in_ok-shown.field-0.shown.items k) (sym behind)
    (subst (λ (k : Shelf). IsShownIn (version_wanted c.wanted-wanted.result) k c.args.question s.context c.in_ok-shown.field-0.shown.found c.in_ok-shown.field-0.shown.items c.decide.new.earlier) before shows) in
    let again : (lemmas : List Lemma) → c.in_ok-shown.field-0.shown.found ≡ Unsat lemmas → RefutesAgain c.keep_schedule.new.self.earlier s.context c.last_item-self.result = λ lemmas is. refutes_again _ c.args.self.now.earlier c.keep_schedule.new.self.earlier c.args.question s.context c.in_ok-shown.field-0.shown.found lemmas c.in_ok-shown.field-0.shown.items c.last_item-self.result is c.last_item-self.ensures
    (subst (λ (v : Version). IsShownIn v c.args.self.now.earlier c.args.question s.context c.in_ok-shown.field-0.shown.found c.in_ok-shown.field-0.shown.items c.keep_schedule.new.self.earlier) version shows_now) in
    decided_anew c.keep_schedule.new.self.walk.state _ s (version_wanted c.wanted-wanted.result) c.args.question x c.in_ok-shown.field-0.shown.found c.in_ok-shown.field-0.given there_later asked decided.decides
    (λ lemmas some is. c.in_ok-cited.ensures.cites s lemmas there_later some is) again (sym version) refl refl marks c.args.self.now stands
    (ap (λ (w : Walk). w.number) c.settle.ensures.rest ∙ ap (λ (w : Walk). w.number + 1) later) shows_now
