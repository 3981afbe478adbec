use Rattle.std.proofs.Common.{arith, sym, ap, subst, ◌∙◌, ◌≡◌, Result, Ok, Err}
use Rattle.std.proofs.lemmas.Grind.{common_steps}
use Rattle.smt_script.specs.code.Kept.{Kept}
use Rattle.idl_apply.specs.Applied.{Made}
use Rattle.idl_term.specs.Contexts.{environment, scope_of}
use Rattle.idl_term.specs.Values.{value}
use Rattle.idl_apply.specs.declared.error.TermRefusal.{TermRefusal}
use Rattle.script_walk.specs.code.Standing.{Stands}
use Rattle.dtp_session.proofs.Saying.{AreTestedFrom, tested_next, answered_more, answered_all}
use Rattle.dtp_session.proofs.notices.values_of.Goals as goal

pub value-requires-clause-meaning : goal.value-requires-clause-meaning
value-requires-clause-meaning c =
    let h = c.loop-term.invariant.tested in
    let from : AreTestedFrom c.args.sexprs.now c.args.terms.now (scope_of h.0.context) h.0.context.nodes c.loop-term.term-index = h.3 in
    let n = tested_next c.args.sexprs.now c.args.terms.now (scope_of h.0.context) h.0.context.nodes c.loop-term.term-index (omega arith) from in
    (n.term, n.means)

pub unreachable-requires : goal.unreachable-requires
unreachable-requires c =
    let h = c.loop-term.invariant.tested in
    let from : AreTestedFrom c.args.sexprs.now c.args.terms.now (scope_of h.0.context) h.0.context.nodes c.loop-term.term-index = h.3 in
    let n = tested_next c.args.sexprs.now c.args.terms.now (scope_of h.0.context) h.0.context.nodes c.loop-term.term-index (omega arith) from in
    let why = c.in-Err-Refused.field-0-0 in
    let refused = c.in-Err-Refused.ensures.refused why (ap Err c.in-Err-Refused.field-0-is) h.0 n.term h.1.stands n.means in
    let bad : ◌≡◌ {A = Result Made TermRefusal} (Err why) (Ok n.made.0) = sym refused ∙ n.made.1 in
    cc

pub loop-term-preserved : goal.loop-term-preserved
loop-term-preserved c =
    let h = c.loop-term.invariant.tested in
    let i = c.loop-term.term-index in
    let from : AreTestedFrom c.args.sexprs.now c.args.terms.now (scope_of h.0.context) h.0.context.nodes i = h.3 in
    let n = tested_next c.args.sexprs.now c.args.terms.now (scope_of h.0.context) h.0.context.nodes i (omega arith) from in
    let same = c.value.ensures.same in
    let items = c.in_ok-push-in-Ok.ensures.items in
    record {
      same = same ∙ c.loop-term.invariant.same;
      marks = rw same c.value.ensures.marks;
      counted = grind (arith, common_steps, items, c.loop-term.invariant.counted);
      tested = (h.0, subst (λ (k : Kept). Stands k h.0) (sym same) h.1, h.2, n.behind);
      answered = λ s stands fits. (
          let before = subst (λ (k : Kept). Stands k s) same stands in
          answered_more c.args.sexprs.now c.args.terms.now (value (environment s.context c.args.values.now)) c.loop-term.answers.items c.push.new.self.items c.in-Ok.answer i (c.loop-term.invariant.answered s before fits) (omega arith) items
          (λ x means. c.in-Ok.ensures.ok s x before.stands means before.made fits)
          );
    }

pub returns-clause-answers : goal.returns-clause-answers
returns-clause-answers c = λ s ts stands means fits.
    let before = subst (λ (k : Kept). Stands k s) (sym c.loop-term.invariant.same) stands in
    answered_all c.args.sexprs.now c.args.terms.now (value (environment s.context c.args.values.now)) c.loop-term.answers.items c.loop-term.term-index (c.loop-term.invariant.answered s before fits) (omega arith) ts means
