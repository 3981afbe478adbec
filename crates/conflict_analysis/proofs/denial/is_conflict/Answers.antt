use Rattle.conflict_analysis.proofs.Denied.{denied_all}
use Rattle.conflict_analysis.proofs.denial.is_conflict.Goals as goal

pub returns : goal.returns
returns g c = λ e. (
  c.is_known.ensures.0 c.if-not-is_known.false,
  denied_all c.args.entries.now c.clause_of-clause.result.now _ (c.are_denied.ensures e) c.clause_of-clause.ensures,
)
