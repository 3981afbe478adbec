use Rattle.std.proofs.Common.{◌∙◌}
use Rattle.branch_search.proofs.Splits.{modelled}
use Rattle.branch_search.proofs.model.model_of.Goals as goal

pub returns-in_ok-from_slice-in-None : goal.returns-in_ok-from_slice-in-None
returns-in_ok-from_slice-in-None g c = record {
  model = modelled c.args.problem.now (g.N.Net.points_of c.args.net.now) _
      (g.N.Net.literals_of c.args.net.now) _ _ c.false_clause.result c.requires.points c.as_slice.ensures
      (c.new-schedule.ensures ∙ c.in_ok-from_slice-in-None.ensures.items) c.schedule-values.ensures c.false_clause.ensures.found
      c.in-None.is;
}
