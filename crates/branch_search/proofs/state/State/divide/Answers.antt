use Rattle.std.proofs.Common.{◌∙◌, ap, subst, get_or, List, []}
use Rattle.std.specs.Prelude.{IfSome}
use Rattle.stn_core.specs.declared.literal.Literal.{Literal}
use Rattle.stn_core.specs.declared.problem.Problem.{Problem}
use Rattle.stn_core.specs.Literal.{literal_at}
use Rattle.branch_search.specs.code.Divisions.{Divides}
use Rattle.branch_search.proofs.Splits.{modelled, is_none, are_live, live_at, split_by, split_of}
use Rattle.branch_search.proofs.state.State.divide.Goals as goal

pub returns-in_default-false_clause-clause-division : goal.returns-in_default-false_clause-clause-division
returns-in_default-false_clause-clause-division g c =
    let net = g.N.Net in
    let q = c.args.task.now in
    let all = are_live q c.check_all.new.self.own.items c.check_all.new.self.entries.items
    c.check_all.new.self.levels.items (net.literals_of c.check_all.new.net) c.in_ok-j.field-0 c.in_ok-j.ensures.live
    c.in_default.not-Some in (
      modelled q.problem (net.points_of c.check_all.new.net) _
          (net.literals_of c.check_all.new.net) _ _ c.false_clause.result (c.in_ok-j.ensures.points ∙ c.requires.points)
          (c.as_slice.ensures ∙ ap (λ (p : Problem). p.clauses) c.problem-problem.ensures) (c.new-schedule.ensures ∙ c.in_ok-from_slice.ensures.items) c.schedule-values.ensures
          c.false_clause.ensures.found (is_none c.false_clause.result c.in_default-false_clause.not-Some),
      all.0.proved,
    )

pub returns-in-At-clause-division : goal.returns-in-At-clause-division
returns-in-At-clause-division g c =
    let net = g.N.Net in
    let q = c.args.task.now in
    let all = are_live q c.check_all.new.self.own.items c.check_all.new.self.entries.items
    c.check_all.new.self.levels.items (net.literals_of c.check_all.new.net) c.in_ok-j.field-0 c.in_ok-j.ensures.live
    c.in_default.not-Some in
    let here = live_at q c.check_live.new.self.own.items c.check_live.new.self.entries.items
    c.check_live.new.self.levels.items (net.literals_of c.check_live.new.net) c.in-Some-false_clause.i
    c.in_ok-place.field-0 c.in-At.place c.in_ok-place.ensures.live c.in-At.is in (
      split_of q (net.points_of c.check_all.new.net) _ (net.literals_of c.check_all.new.net)
          (net.literals_of c.check_live.new.net) c.schedule-values.result.now c.in-Some-false_clause.i c.in-At.place _
          (c.in_ok-j.ensures.points ∙ c.requires.points)
          (c.as_slice.ensures ∙ ap (λ (p : Problem). p.clauses) c.problem-problem.ensures) (c.in_ok-j.ensures.literals ∙ c.requires.cube)
          (c.in_ok-place.ensures.literals ∙ c.in_ok-literal.ensures.literals) c.schedule-values.ensures c.in-Some-false_clause.ensures.found here.1 all.1
          (ap (λ (ls : List Literal). literal_at ls c.in-At.place) c.clause_of.ensures
          ∙ ap (λ (p : Problem). literal_at (get_or p.clauses c.in-Some-false_clause.i []) c.in-At.place) c.problem-problem.ensures),
      here.0.proved,
    )

pub returns-in-Some-2-clause-division : goal.returns-in-Some-2-clause-division
returns-in-Some-2-clause-division g c =
    let net = g.N.Net in
    let q = c.args.task.now in
    let all = are_live q c.check_all.new.self.own.items c.check_all.new.self.entries.items
    c.check_all.new.self.levels.items (net.literals_of c.check_all.new.net) c.in_ok-j.field-0 c.in_ok-j.ensures.live
    c.in_default.not-Some in (
      split_by q (net.points_of c.check_all.new.net) (net.literals_of c.check_all.new.net) c.in_ok-literal.field-0
          c.in-Some-2.literal (c.in_ok-j.ensures.points ∙ c.requires.points)
          (c.in_ok-j.ensures.literals ∙ c.requires.cube)
          (subst (λ (p : Problem). IfSome c.in_ok-literal.field-0 (Divides (net.points_of c.check_all.new.net) p (net.literals_of c.check_all.new.net)))
          c.problem-problem.ensures c.in_ok-literal.ensures.divides) c.in-Some-2.is all.1,
      all.0.proved,
    )
