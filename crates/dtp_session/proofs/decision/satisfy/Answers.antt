use Rattle.std.proofs.Common.{arith, ◌∙◌, ◌≡◌, ◌+◌, sym, ap, subst, List, length, ℤ}
use Rattle.std.specs.Prelude.{All}
use Rattle.stn_core.specs.Schedule.{IsInRange}
use Rattle.stn_core.specs.Solution.{IsSolution}
use Rattle.cert_text.specs.declared.entry.Entry.TheVariants.{Sat}
use Rattle.book_core.specs.declared.verdict.Verdict.TheVariants.{Unsat}
use Rattle.book_core.specs.Verdicts.{IsRight}
use Rattle.clause_form.specs.Restricting.{restricted}
use Rattle.idl_node.specs.declared.sort.Sort.{Sort}
use Rattle.idl_term.specs.Scopes.{Scope, sorts_of}
use Rattle.smt_script.specs.declared.state.Question.TheVariants.{CheckSat}
use Rattle.dtp_entry.proofs.Verdicts.{sorts_count}
use Rattle.dtp_session.specs.code.Forms.{version_wanted}
use Rattle.dtp_session.proofs.Deciding.{laws_by, FormLaws, as_found, sat_decision, unsat_decision, refuted_for}
use Rattle.dtp_session.proofs.Keeping.{entered_shows, passed_as}
use Rattle.dtp_session.proofs.decision.satisfy.Goals as goal

pub restrict-requires-clause-some : goal.restrict-requires-clause-some
restrict-requires-clause-some g c =
    let s = c.requires.0 in
    let stands = c.requires.2 in
    let taken = c.requires.3 in
    let found : IsSolution c.args.problem c.in-Sat.schedule = as_found _ _ _ c.in-Sat.is c.in_ok-searched.ensures in
    let count : length c.as_slice.result.now ≡ c.args.problem.points = ap (λ (values : List ℤ). length values) c.as_slice.ensures ∙ found.count in
    let names : length c.sorts.result.now ≡ length s.context.declared =
    ap (λ (sorts : List Sort). length sorts) (c.sorts.ensures ∙ ap sorts_of (c.names.ensures.names ∙ ap (λ (t : Scope). t.declared) stands.stands.scope)) ∙ sorts_count s.context.declared in
    let some = c.clause_form_law.ensures.some (length s.context.declared + 1) s.context.nodes s.context.roots in
    let points = taken.is_problem.points in
    omega (arith, count, names, some, points)

pub restrict-requires-clause-range : goal.restrict-requires-clause-range
restrict-requires-clause-range g c =
    let found : IsSolution c.args.problem c.in-Sat.schedule = as_found _ _ _ c.in-Sat.is c.in_ok-searched.ensures in
    subst (λ (values : List ℤ). All IsInRange values) (sym c.as_slice.ensures) found.range

pub returns-in_ok-shown-in-Sat : goal.returns-in_ok-shown-in-Sat
returns-in_ok-shown-in-Sat g c = λ s x stands taken.
    let found : IsSolution c.args.problem c.in-Sat.schedule = as_found _ _ _ c.in-Sat.is c.in_ok-searched.ensures in
    let of_context = c.context_law.ensures in
    let of_form = c.clause_form_law.ensures in
    let laws = laws_by of_context.scope of_context.roots of_context.exact of_form.holds of_form.schedule of_form.some c.refutation_law.ensures c.unbounded_law.ensures c.core_law.ensures in
    let names : c.sorts.result.now ≡ sorts_of s.context.declared = c.sorts.ensures ∙ ap sorts_of (c.names.ensures.names ∙ ap (λ (t : Scope). t.declared) stands.stands.scope) in
    let values : c.in_ok-values-in-Sat.values ≡ restricted (sorts_of s.context.declared) c.in-Sat.schedule =
    c.in_ok-values-in-Sat.ensures.values ∙ ap (restricted c.sorts.result.now) c.as_slice.ensures ∙ ap (λ (sorts : List Sort). restricted sorts c.in-Sat.schedule) names in
    let version = version_wanted c.args.wanted in
    let shown = c.in_ok-shown-in-Sat.ensures in
    let decides = sat_decision laws s.context stands.made.context c.args.problem taken.is_problem version x c.in-Sat.schedule c.in_ok-values-in-Sat.values _ found values c.in_ok-values-in-Sat.ensures.within shown.found in
    record {
      decides = decides;
      shows = passed_as version c.args.earlier.now c.without_lemmas.new.earlier CheckSat x s.context (Sat c.in_ok-values-in-Sat.values) _ _ shown.found tt decides.decides.right shown.passed;
    }

pub refuted-requires-clause-refutes : goal.refuted-requires-clause-refutes
refuted-requires-clause-refutes g c = (as_found _ _ _ c.in-Unsat.is c.in_ok-searched.ensures).0

pub refuted-requires-clause-over : goal.refuted-requires-clause-over
refuted-requires-clause-over g c = (as_found _ _ _ c.in-Unsat.is c.in_ok-searched.ensures).1

pub returns-in_ok-shown-in-Unsat : goal.returns-in_ok-shown-in-Unsat
returns-in_ok-shown-in-Unsat g c = λ s x stands taken.
    let found : IsRight c.args.problem (Unsat c.in-Unsat.refutation) = as_found _ _ _ c.in-Unsat.is c.in_ok-searched.ensures in
    let of_context = c.context_law.ensures in
    let of_form = c.clause_form_law.ensures in
    let lengths = c.lengths_law.ensures in
    let laws = laws_by of_context.scope of_context.roots of_context.exact of_form.holds of_form.schedule of_form.some c.refutation_law.ensures c.unbounded_law.ensures c.core_law.ensures in
    let forms : FormLaws = record { negation = c.negation_kept.ensures; plain = lengths.no_clash; longer = lengths.lengthened; shorter = lengths.shortened } in
    let version = version_wanted c.args.wanted in
    let shown = c.in_ok-shown-in-Unsat.ensures in
    let decides = unsat_decision laws s.context stands.made.context c.args.problem taken.is_problem forms version CheckSat x c.in-Unsat.refutation _ taken.asked found shown.found in
    record {
      decides = decides;
      shows = entered_shows version c.args.earlier.now c.refuted.new.earlier CheckSat x s.context c.args.problem.points c.args.problem.clauses _ _ decides.decides.right
          (refuted_for laws s.context stands.made.context c.args.problem taken.is_problem version CheckSat c.in-Unsat.refutation _ shown.found) shown.entered;
    }
