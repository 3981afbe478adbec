use Rattle.std.proofs.Common.{refl, sym, ap, subst, ◌∙◌}
use Rattle.smt_script.specs.declared.state.Notice.{Notice}
use Rattle.smt_script.specs.declared.state.Notice.TheVariants as notice
use Rattle.dtp_entry.specs.declared.report.Report.{Report}
use Rattle.dtp_entry.specs.Transcripts.{told}
use Rattle.dtp_session.specs.declared.piece.Piece.TheVariants.{Proof, Told}
use Rattle.dtp_session.specs.code.Sessions.{MayTell}
use Rattle.dtp_session.proofs.Answering.{told_tells, proof_tells, tells_as, holds_kept}
use Rattle.dtp_session.proofs.session.Session.tell_in_transcript.Goals as goal

pub returns-in-Proof-clause-tells : goal.returns-in-Proof-clause-tells
returns-in-Proof-clause-tells c = λ s x holds means may.
    let p = c.args.self.now in
    tells_as p p s x c.args.notice notice.Proof Proof c.in-Proof.is (proof_tells p p s x c.requires.report holds refl (may.proof c.in-Proof.is))

pub returns-in_ok-tell_model-in-Model-clause-tells : goal.returns-in_ok-tell_model-in-Model-clause-tells
returns-in_ok-tell_model-in-Model-clause-tells c = λ s x holds means may.
    let p = c.args.self.now in
    let q = c.tell_model.new.self in
    let may_model = subst (λ (n : Notice). MayTell s x n) c.in-Model.is may in
    tells_as p q s x c.args.notice notice.Model Told c.in-Model.is
    (told_tells p q s x notice.Model (holds_kept p q s c.in_ok-tell_model-in-Model.ensures.keeps c.in_ok-tell_model-in-Model.ensures.marks holds) c.in_ok-tell_model-in-Model.ensures.keeps.held
    (c.in_ok-tell_model-in-Model.ensures.told s x holds may_model ∙ ap (λ (r : Report). told r p.held s x notice.Model) (sym c.requires.report)))

pub returns-in_ok-tell_core-in-Core-clause-tells : goal.returns-in_ok-tell_core-in-Core-clause-tells
returns-in_ok-tell_core-in-Core-clause-tells c = λ s x holds means may.
    let p = c.args.self.now in
    let q = c.tell_core.new.self in
    let may_core = subst (λ (n : Notice). MayTell s x n) c.in-Core.is may in
    tells_as p q s x c.args.notice notice.Core Told c.in-Core.is
    (told_tells p q s x notice.Core (holds_kept p q s c.in_ok-tell_core-in-Core.ensures.keeps c.in_ok-tell_core-in-Core.ensures.marks holds) c.in_ok-tell_core-in-Core.ensures.keeps.held
    (c.in_ok-tell_core-in-Core.ensures.told s x holds may_core ∙ ap (λ (r : Report). told r p.held s x notice.Core) (sym c.requires.report)))

pub returns-in_ok-tell_assumptions-in-Assumptions-clause-tells : goal.returns-in_ok-tell_assumptions-in-Assumptions-clause-tells
returns-in_ok-tell_assumptions-in-Assumptions-clause-tells c = λ s x holds means may.
    let p = c.args.self.now in
    let q = c.tell_assumptions.new.self in
    let may_assumptions = subst (λ (n : Notice). MayTell s x n) c.in-Assumptions.is may in
    tells_as p q s x c.args.notice notice.Assumptions Told c.in-Assumptions.is
    (told_tells p q s x notice.Assumptions (holds_kept p q s c.in_ok-tell_assumptions-in-Assumptions.ensures.keeps c.in_ok-tell_assumptions-in-Assumptions.ensures.marks holds) c.in_ok-tell_assumptions-in-Assumptions.ensures.keeps.held
    (c.in_ok-tell_assumptions-in-Assumptions.ensures.told s x holds may_assumptions ∙ ap (λ (r : Report). told r p.held s x notice.Assumptions) (sym c.requires.report)))

pub returns-in_ok-tell_values-in-Values-clause-tells : goal.returns-in_ok-tell_values-in-Values-clause-tells
returns-in_ok-tell_values-in-Values-clause-tells c = λ s x holds means may.
    let p = c.args.self.now in
    let q = c.tell_values.new.self in
    let may_values = subst (λ (n : Notice). MayTell s x n) c.in-Values.is may in
    let w = c.in_ok-tell_values-in-Values.ensures.told s x holds means may_values in
    tells_as p q s x c.args.notice notice.Values Told c.in-Values.is
    (told_tells p q s x notice.Values w.1 c.in_ok-tell_values-in-Values.ensures.keeps.held
    (w.0 ∙ ap (λ (r : Report). told r p.held s x notice.Values) (sym c.requires.report)))

pub returns-in_ok-tell_plain-in_default : goal.returns-in_ok-tell_plain-in_default
returns-in_ok-tell_plain-in_default c = record {
  tells = λ s x holds means may. (
      let p = c.args.self.now in
      let q = c.tell_plain.new.self in
      told_tells p q s x c.args.notice (holds_kept p q s c.in_ok-tell_plain-in_default.ensures.keeps c.in_ok-tell_plain-in_default.ensures.marks holds) c.in_ok-tell_plain-in_default.ensures.keeps.held
      (c.in_ok-tell_plain-in_default.ensures.told s x holds means ∙ ap (λ (r : Report). told r p.held s x c.args.notice) (sym c.requires.report))
      );
  keeps = c.in_ok-tell_plain-in_default.ensures.keeps.reading;
}
