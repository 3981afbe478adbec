use Rattle.std.proofs.Common.{sym, subst}
use Rattle.std.specs.Prelude.{IfOk}
use Rattle.smt_sexpr.specs.Tree.{Sexpr}
use Rattle.smt_script.specs.States.{State}
use Rattle.smt_script.specs.declared.state.Question.{Question}
use Rattle.script_walk.specs.code.Standing.{Stands}
use Rattle.dtp_session.specs.declared.decision.Decision.{Decision}
use Rattle.dtp_session.specs.code.Forms.{version_wanted}
use Rattle.dtp_session.specs.code.Decisions.{IsTaken, IsDecidedBy}
use Rattle.dtp_session.proofs.decision.decide.Goals as goal

pub returns-in-CheckSat : goal.returns-in-CheckSat
returns-in-CheckSat g c =
    subst (λ (q : Question). IfOk c.satisfy.result (λ (decision : Decision). (s : State) → (x : Sexpr) → Stands c.args.state.now s → IsTaken q x s c.args.problem → IsDecidedBy (version_wanted c.args.wanted) c.args.earlier.now q x s.context decision c.satisfy.new.earlier)) (sym c.in-CheckSat.is) c.satisfy.ensures

pub returns-in-Minimize : goal.returns-in-Minimize
returns-in-Minimize g c =
    subst (λ (q : Question). IfOk c.minimize.result (λ (decision : Decision). (s : State) → (x : Sexpr) → Stands c.args.state.now s → IsTaken q x s c.args.problem → IsDecidedBy (version_wanted c.args.wanted) c.args.earlier.now q x s.context decision c.minimize.new.earlier)) (sym c.in-Minimize.is) c.minimize.ensures
