use Rattle.std.proofs.Common.{sym, subst}
use Rattle.smt_script.specs.States.{released}
use Rattle.smt_script.specs.code.Kept.{Kept, StandsFor}
use Rattle.smt_script.specs.declared.state.Mode.TheVariants as mode
use Rattle.smt_script.proofs.state.State.settle.Goals.{in-Sat, in-Unsat}
use Rattle.smt_script.proofs.state.State.settle.Goals as goal

pub returns : goal.returns
returns c = λ s stands. elim c.match-verdict.branch [
  | in-Sat w ↦ rw (w.self-is, w.in-Sat.is) (subst (λ (k : Kept). StandsFor (record k { mode = mode.Sat }) (record (released s s.assumed) { mode = mode.Sat })) (sym c.self.view_is) (c.release.ensures.stands s mode.Sat stands))
  | in-Unsat w ↦ rw (w.self-is, w.in-Unsat.is) (subst (λ (k : Kept). StandsFor (record k { mode = mode.Unsat }) (record (released s s.assumed) { mode = mode.Unsat })) (sym c.self.view_is) (c.release.ensures.stands s mode.Unsat stands))
]
