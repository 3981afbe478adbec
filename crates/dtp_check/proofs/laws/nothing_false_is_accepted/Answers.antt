use Rattle.dtp_entry.proofs.Bests.{Laws}
use Rattle.dtp_check.proofs.Truths.{accepted_told}
use Rattle.dtp_check.proofs.laws.nothing_false_is_accepted.Goals as goal

pub returns : goal.returns
returns c =
    let contexts = c.context_law.ensures in
    let forms = c.clause_form_law.ensures in
    let states = c.state_law.ensures in
    let laws : Laws = record {
      scope = contexts.scope;
      roots = contexts.roots;
      exact = contexts.exact;
      holds = forms.holds;
      schedule = forms.schedule;
      some = forms.some;
      refutes = c.refutation_law.ensures;
      unbounded = c.unbounded_law.ensures;
      core = c.core_law.ensures;
    } in
    accepted_told c.flaw_law.ensures.items c.entries_law.ensures.items c.entries_law.ensures.goes_on laws forms.over forms.few c.objective_law.ensures states.step states.settled states.start
