use Rattle.std.proofs.Common.{sym, subst}
use Rattle.smt_script.specs.declared.state.Question.TheVariants.{CheckSat}
use Rattle.dtp_session.specs.declared.session.Session.{Session}
use Rattle.dtp_session.specs.code.Sessions.{Holds, IsAnswered}
use Rattle.dtp_session.proofs.session.Session.ask_verdict.Goals as goal

pub returns-in_ok-piece-in-Unsat-clause-answered : goal.returns-in_ok-piece-in-Unsat-clause-answered
returns-in_ok-piece-in-Unsat-clause-answered g c = λ s x holds asked.
    let same = c.in_ok-refute_again-in-Unsat.ensures.untouched c.if-branch.false in
    subst (λ (m : Session). IsAnswered CheckSat x m c.ask_anew.new.self s c.in_ok-piece-in-Unsat.piece) same
    (c.in_ok-piece-in-Unsat.ensures.answered s x (subst (λ (m : Session). Holds m s) (sym same) holds) asked)
