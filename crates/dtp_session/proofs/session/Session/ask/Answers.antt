use Rattle.std.proofs.Common.{sym, subst}
use Rattle.smt_script.specs.declared.state.Question.{Question}
use Rattle.dtp_session.specs.code.Sessions.{IsAskedIn, IsAnswered}
use Rattle.dtp_session.proofs.session.Session.ask.Goals as goal

pub returns-in_ok-piece-in-CheckSat-clause-answered : goal.returns-in_ok-piece-in-CheckSat-clause-answered
returns-in_ok-piece-in-CheckSat-clause-answered g c = λ s x holds asked.
    let verdict = subst (λ (q : Question). IsAskedIn q x s) c.in-CheckSat.is asked in
    subst (λ (q : Question). IsAnswered q x c.args.self.now c.ask_verdict.new.self s c.in_ok-piece-in-CheckSat.piece) (sym c.in-CheckSat.is) (c.in_ok-piece-in-CheckSat.ensures.answered s x holds verdict)
