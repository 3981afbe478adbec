use Rattle.std.proofs.Common.{sym, ◌∙◌, Some, None}
use Rattle.dtp_check.proofs.FreeSets.{found_kept, kept_flaw}
use Rattle.dtp_check.proofs.unbounded_entry.set_flaw.Goals as goal

pub returns-in-Some : goal.returns-in-Some
returns-in-Some c =
    let p = c.args.problem.now in
    let found = found_kept c.args.values.now c.args.set.now p.clauses c.in_ok-i.field-0 c.in_ok-i.ensures ∙ c.in-Some.is in
    sym (kept_flaw c.args.objective p.points p.clauses c.args.values.now c.args.set.now (Some c.in-Some.i) c.if-values-problem.false (sym c.are_points.ensures ∙ c.if-not-are_points.false) (sym c.is_of_objective.ensures ∙ c.if-not-is_of_objective.false) found)

pub returns-in-None : goal.returns-in-None
returns-in-None c =
    let p = c.args.problem.now in
    let found = found_kept c.args.values.now c.args.set.now p.clauses c.in_ok-i.field-0 c.in_ok-i.ensures ∙ c.in-None.is in
    sym (kept_flaw c.args.objective p.points p.clauses c.args.values.now c.args.set.now None c.if-values-problem.false (sym c.are_points.ensures ∙ c.if-not-are_points.false) (sym c.is_of_objective.ensures ∙ c.if-not-is_of_objective.false) found)
