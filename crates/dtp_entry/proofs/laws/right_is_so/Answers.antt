use Rattle.dtp_entry.proofs.Bests.{Laws, right_of_command}
use Rattle.dtp_entry.proofs.laws.right_is_so.Goals as goal

pub returns : goal.returns
returns c =
    let of_context = c.context_law.ensures in
    let of_form = c.clause_form_law.ensures in
    let laws : Laws = record {
      scope = of_context.scope;
      roots = of_context.roots;
      exact = of_context.exact;
      holds = of_form.holds;
      schedule = of_form.schedule;
      some = of_form.some;
      refutes = c.refutation_law.ensures;
      unbounded = c.unbounded_law.ensures;
      core = c.core_law.ensures;
    } in
    right_of_command laws c.objective_law.ensures c.state_law.ensures.step
