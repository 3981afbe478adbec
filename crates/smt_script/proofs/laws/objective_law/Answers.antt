use Rattle.smt_script.proofs.MadeStates.{step_made}
use Rattle.smt_script.proofs.Minimizing.{minimized_worth}
use Rattle.smt_script.proofs.Modes.{minimizes}
use Rattle.smt_script.proofs.laws.objective_law.Goals as goal

pub returns : goal.returns
returns c = λ s x step o made e f.
    let m = minimizes s x step o e f in (
      m.0,
      m.1,
      minimized_worth step.state.context m.0 (step_made s x step made e).context c.linear_law.ensures.difference c.context_law.ensures.scope c.context_law.ensures.agrees
          c.lowered_law.ensures.made c.lowered_law.ensures.value o m.2,
    )
