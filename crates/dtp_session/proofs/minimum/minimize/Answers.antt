use Rattle.std.proofs.Common.{arith, ◌∙◌, ◌≡◌, ◌+◌, sym, ap, subst, List, length, ℤ, w64, to_z, of_z}
use Rattle.std.specs.Prelude.{All}
use Rattle.std.proofs.lemmas.Int.{ints}
use Rattle.stn_core.specs.Schedule.{IsInRange}
use Rattle.best_bound.specs.Answers.{IsNothing, IsLeast, IsUnbounded}
use Rattle.cert_text.specs.declared.entry.Entry.TheVariants.{Unbounded}
use Rattle.clause_form.specs.Restricting.{restricted}
use Rattle.idl_node.specs.declared.sort.Sort.{Sort}
use Rattle.idl_term.specs.Scopes.{Scope, sorts_of}
use Rattle.smt_script.specs.declared.state.Question.TheVariants.{Minimize}
use Rattle.dtp_entry.proofs.Verdicts.{sorts_count}
use Rattle.dtp_session.specs.code.Forms.{version_wanted}
use Rattle.dtp_session.specs.code.Decisions.{RefutesLess, IsLeastShown}
use Rattle.dtp_session.proofs.Deciding.{laws_by, FormLaws, as_answered, problem_fits, point_in, unsat_decision, refuted_for, least_decision, least_for, unbounded_decision}
use Rattle.dtp_session.proofs.Keeping.{entered_shows, passed_as}
use Rattle.dtp_session.proofs.minimum.minimize.Goals as goal

pub search-requires-clause-fits : goal.search-requires-clause-fits
search-requires-clause-fits g c = λ lifetimes outlives.
    let taken = c.requires.3 in
    problem_fits c.args.problem c.requires.0 c.requires.1 c.args.objective taken

pub search-requires-clause-x_in : goal.search-requires-clause-x_in
search-requires-clause-x_in g c = λ lifetimes outlives.
    let taken = c.requires.3 in
    point_in c.clause_form_law.ensures.some c.args.problem c.requires.0.context taken.is_problem c.args.objective.x taken.asked.2.x_below

pub search-requires-clause-y_in : goal.search-requires-clause-y_in
search-requires-clause-y_in g c = λ lifetimes outlives.
    let taken = c.requires.3 in
    point_in c.clause_form_law.ensures.some c.args.problem c.requires.0.context taken.is_problem c.args.objective.y taken.asked.2.y_below

pub restrict-requires-clause-some : goal.restrict-requires-clause-some
restrict-requires-clause-some g c =
    let s = c.requires.0 in
    let stands = c.requires.2 in
    let taken = c.requires.3 in
    let found : IsLeast c.args.problem c.args.objective.x c.args.objective.y c.in-Least.values c.in-Least.difference c.in-Least.refutation = as_answered _ _ _ _ _ c.in-Least.is c.in_ok-best.ensures in
    let count : length c.as_slice.result.now ≡ c.args.problem.points = ap (λ (values : List ℤ). length values) c.as_slice.ensures ∙ found.solution.count in
    let names : length c.sorts.result.now ≡ length s.context.declared =
    ap (λ (sorts : List Sort). length sorts) (c.sorts.ensures ∙ ap sorts_of (c.names.ensures.names ∙ ap (λ (t : Scope). t.declared) stands.stands.scope)) ∙ sorts_count s.context.declared in
    let some = c.clause_form_law.ensures.some (length s.context.declared + 1) s.context.nodes s.context.roots in
    let points = taken.is_problem.points in
    omega (arith, count, names, some, points)

pub restrict-requires-clause-range : goal.restrict-requires-clause-range
restrict-requires-clause-range g c =
    let found : IsLeast c.args.problem c.args.objective.x c.args.objective.y c.in-Least.values c.in-Least.difference c.in-Least.refutation = as_answered _ _ _ _ _ c.in-Least.is c.in_ok-best.ensures in
    subst (λ (values : List ℤ). All IsInRange values) (sym c.as_slice.ensures) found.solution.range

pub restrict-requires-in-Unbounded-clause-some : goal.restrict-requires-in-Unbounded-clause-some
restrict-requires-in-Unbounded-clause-some g c =
    let s = c.requires.0 in
    let stands = c.requires.2 in
    let taken = c.requires.3 in
    let found : IsUnbounded c.args.problem c.args.objective.x c.args.objective.y c.in-Unbounded.values c.in-Unbounded.set = as_answered _ _ _ _ _ c.in-Unbounded.is c.in_ok-best.ensures in
    let count : length c.as_slice-in-Unbounded.result.now ≡ c.args.problem.points = ap (λ (values : List ℤ). length values) c.as_slice-in-Unbounded.ensures ∙ found.solution.count in
    let names : length c.sorts-in-Unbounded.result.now ≡ length s.context.declared =
    ap (λ (sorts : List Sort). length sorts) (c.sorts-in-Unbounded.ensures ∙ ap sorts_of (c.names-in-Unbounded.ensures.names ∙ ap (λ (t : Scope). t.declared) stands.stands.scope)) ∙ sorts_count s.context.declared in
    let some = c.clause_form_law.ensures.some (length s.context.declared + 1) s.context.nodes s.context.roots in
    let points = taken.is_problem.points in
    omega (arith, count, names, some, points)

pub restrict-requires-in-Unbounded-clause-range : goal.restrict-requires-in-Unbounded-clause-range
restrict-requires-in-Unbounded-clause-range g c =
    let found : IsUnbounded c.args.problem c.args.objective.x c.args.objective.y c.in-Unbounded.values c.in-Unbounded.set = as_answered _ _ _ _ _ c.in-Unbounded.is c.in_ok-best.ensures in
    subst (λ (values : List ℤ). All IsInRange values) (sym c.as_slice-in-Unbounded.ensures) found.solution.range

pub refuted-requires-clause-refutes : goal.refuted-requires-clause-refutes
refuted-requires-clause-refutes g c =
    let found : IsNothing c.args.problem c.in-Nothing.refutation = as_answered _ _ _ _ _ c.in-Nothing.is c.in_ok-best.ensures in
    found.0

pub refuted-requires-clause-over : goal.refuted-requires-clause-over
refuted-requires-clause-over g c =
    let found : IsNothing c.args.problem c.in-Nothing.refutation = as_answered _ _ _ _ _ c.in-Nothing.is c.in_ok-best.ensures in
    found.1

pub least-requires-clause-refutes : goal.least-requires-clause-refutes
least-requires-clause-refutes g c =
    let found : IsLeast c.args.problem c.args.objective.x c.args.objective.y c.in-Least.values c.in-Least.difference c.in-Least.refutation = as_answered _ _ _ _ _ c.in-Least.is c.in_ok-best.ensures in
    let low = found.within.low in
    let high = found.within.high in
    let same : to_z w64 (of_z w64 c.in-Least.difference) ≡ c.in-Least.difference = omega (arith, ints, low, high) in
    subst (λ (d : ℤ). RefutesLess c.args.problem c.args.objective d c.in-Least.refutation) (sym same) found.refuted

pub least-requires-clause-over : goal.least-requires-clause-over
least-requires-clause-over g c =
    let found : IsLeast c.args.problem c.args.objective.x c.args.objective.y c.in-Least.values c.in-Least.difference c.in-Least.refutation = as_answered _ _ _ _ _ c.in-Least.is c.in_ok-best.ensures in
    found.over

pub returns-in_ok-shown-in-Nothing : goal.returns-in_ok-shown-in-Nothing
returns-in_ok-shown-in-Nothing g c = λ s x stands taken.
    let found : IsNothing c.args.problem c.in-Nothing.refutation = as_answered _ _ _ _ _ c.in-Nothing.is c.in_ok-best.ensures in
    let of_context = c.context_law.ensures in
    let of_form = c.clause_form_law.ensures in
    let laws = laws_by of_context.scope of_context.roots of_context.exact of_form.holds of_form.schedule of_form.some c.refutation_law.ensures c.unbounded_law.ensures c.core_law.ensures in
    let lengths = c.lengths_law.ensures in
    let forms : FormLaws = record { negation = c.negation_kept.ensures; plain = lengths.no_clash; longer = lengths.lengthened; shorter = lengths.shortened } in
    let version = version_wanted c.args.wanted in
    let question = Minimize c.args.objective in
    let shown = c.in_ok-shown-in-Nothing.ensures in
    let decides = unsat_decision laws s.context stands.made.context c.args.problem taken.is_problem forms version question x c.in-Nothing.refutation _ taken.asked found shown.found in
    record {
      decides = decides;
      shows = entered_shows version c.args.earlier.now c.refuted.new.earlier question x s.context c.args.problem.points c.args.problem.clauses _ _ decides.decides.right
          (refuted_for laws s.context stands.made.context c.args.problem taken.is_problem version question c.in-Nothing.refutation _ shown.found) shown.entered;
    }

pub returns-in_ok-shown-in-Least : goal.returns-in_ok-shown-in-Least
returns-in_ok-shown-in-Least g c = λ s x stands taken.
    let found : IsLeast c.args.problem c.args.objective.x c.args.objective.y c.in-Least.values c.in-Least.difference c.in-Least.refutation = as_answered _ _ _ _ _ c.in-Least.is c.in_ok-best.ensures in
    let of_context = c.context_law.ensures in
    let of_form = c.clause_form_law.ensures in
    let laws = laws_by of_context.scope of_context.roots of_context.exact of_form.holds of_form.schedule of_form.some c.refutation_law.ensures c.unbounded_law.ensures c.core_law.ensures in
    let lengths = c.lengths_law.ensures in
    let forms : FormLaws = record { negation = c.negation_kept.ensures; plain = lengths.no_clash; longer = lengths.lengthened; shorter = lengths.shortened } in
    let names : c.sorts.result.now ≡ sorts_of s.context.declared = c.sorts.ensures ∙ ap sorts_of (c.names.ensures.names ∙ ap (λ (t : Scope). t.declared) stands.stands.scope) in
    let values : c.in_ok-schedule-in-Least.schedule ≡ restricted (sorts_of s.context.declared) c.in-Least.values =
    c.in_ok-schedule-in-Least.ensures.values ∙ ap (restricted c.sorts.result.now) c.as_slice.ensures ∙ ap (λ (sorts : List Sort). restricted sorts c.in-Least.values) names in
    let low = found.within.low in
    let high = found.within.high in
    let same : to_z w64 (of_z w64 c.in-Least.difference) ≡ c.in-Least.difference = grind (arith, ints, low, high) in
    let version = version_wanted c.args.wanted in
    let o = c.args.objective in
    let schedule = c.in_ok-schedule-in-Least.schedule in
    let given = c.in_ok-shown-in-Least.ensures in
    let shown : IsLeastShown version c.args.earlier.now c.args.problem o schedule c.in-Least.difference c.in-Least.refutation c.in_ok-shown-in-Least.shown c.least.new.earlier =
    subst (λ (d : ℤ). IsLeastShown version c.args.earlier.now c.args.problem o schedule d c.in-Least.refutation c.in_ok-shown-in-Least.shown c.least.new.earlier) same given in
    let decides = least_decision laws s.context stands.made.context c.args.problem taken.is_problem o x taken.asked forms version c.in-Least.values schedule c.in-Least.difference c.in-Least.refutation _ found values
    c.in_ok-schedule-in-Least.ensures.within shown.least in
    record {
      decides = decides;
      shows = entered_shows version c.args.earlier.now c.least.new.earlier (Minimize o) x s.context shown.question.points shown.question.clauses _ _ decides.decides.right
          (least_for laws s.context stands.made.context c.args.problem taken.is_problem o x taken.asked version schedule c.in-Least.difference c.in-Least.refutation _ shown.question shown.asks shown.least) shown.entered;
    }

pub returns-in_ok-shown-in-Unbounded : goal.returns-in_ok-shown-in-Unbounded
returns-in_ok-shown-in-Unbounded g c = λ s x stands taken.
    let found : IsUnbounded c.args.problem c.args.objective.x c.args.objective.y c.in-Unbounded.values c.in-Unbounded.set = as_answered _ _ _ _ _ c.in-Unbounded.is c.in_ok-best.ensures in
    let of_context = c.context_law.ensures in
    let of_form = c.clause_form_law.ensures in
    let laws = laws_by of_context.scope of_context.roots of_context.exact of_form.holds of_form.schedule of_form.some c.refutation_law.ensures c.unbounded_law.ensures c.core_law.ensures in
    let names : c.sorts-in-Unbounded.result.now ≡ sorts_of s.context.declared = c.sorts-in-Unbounded.ensures ∙ ap sorts_of (c.names-in-Unbounded.ensures.names ∙ ap (λ (t : Scope). t.declared) stands.stands.scope) in
    let values : c.in_ok-schedule-in-Unbounded.schedule ≡ restricted (sorts_of s.context.declared) c.in-Unbounded.values =
    c.in_ok-schedule-in-Unbounded.ensures.values ∙ ap (restricted c.sorts-in-Unbounded.result.now) c.as_slice-in-Unbounded.ensures ∙ ap (λ (sorts : List Sort). restricted sorts c.in-Unbounded.values) names in
    let version = version_wanted c.args.wanted in
    let question = Minimize c.args.objective in
    let shown = c.in_ok-shown-in-Unbounded.ensures in
    let decides = unbounded_decision laws s.context stands.made.context c.args.problem taken.is_problem c.args.objective x taken.asked version c.in-Unbounded.values c.in-Unbounded.set c.in_ok-schedule-in-Unbounded.schedule _ found values
    c.in_ok-schedule-in-Unbounded.ensures.within shown.found in
    record {
      decides = decides;
      shows = passed_as version c.args.earlier.now c.without_lemmas.new.earlier question x s.context (Unbounded c.in-Unbounded.values c.in-Unbounded.set) _ _ shown.found tt decides.decides.right shown.passed;
    }
