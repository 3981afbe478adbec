use Rattle.std.proofs.Common.{subst, sym, Option, List, ℤ}
use Rattle.std.specs.Prelude.{IfSome}
use Rattle.stn_core.specs.declared.problem.Problem.{Problem}
use Rattle.branch_search.specs.Slices.{AreProved}
use Rattle.stn_core.specs.Solution.{IsSolution}
use Rattle.branch_search.proofs.Splits.{quiet_search}
use Rattle.branch_search.proofs.state.State.turn.Goals as goal

pub returns-in-Some-2-clause-turn : goal.returns-in-Some-2-clause-turn
returns-in-Some-2-clause-turn g c =
    let q = c.args.task.now in
    let state = quiet_search q _ _ _ _ c.args.found c.requires.after c.in_default.not-Some in (
      subst (λ (p : Problem). IsSolution p c.in-Some-2.schedule) c.problem.ensures
          (subst (λ (o : Option (List ℤ)). IfSome o (IsSolution c.problem.result.now)) c.in-Some-2.is c.in_ok-schedule.ensures.model),
      subst (AreProved q) (sym c.in_ok-schedule.ensures.own) state.proved,
    )

pub returns-then-is_spent-clause-turn : goal.returns-then-is_spent-clause-turn
returns-then-is_spent-clause-turn g c =
    let q = c.args.task.now in
    let state = quiet_search q _ _ _ _ c.args.found c.requires.after c.in_default.not-Some in
    subst (AreProved q) (sym c.in_ok-schedule.ensures.own) state.proved

pub returns-in-None-clause-turn : goal.returns-in-None-clause-turn
returns-in-None-clause-turn g c =
    let q = c.args.task.now in
    let state = quiet_search q _ _ _ _ c.args.found c.requires.after c.in_default.not-Some in
    subst (AreProved q) (sym c.in_ok-schedule.ensures.own) state.proved
