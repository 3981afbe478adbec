use Rattle.dtp_session.proofs.Visiting.{answering_lacks, err_and}
use Rattle.dtp_session.proofs.writing.WritingVisitor.next.Goals as goal

pub returns-in_err-event-clause-breaks : goal.returns-in_err-event-clause-breaks
returns-in_err-event-clause-breaks g c =
    err_and c.from_residual.result _ _ c.from_residual.ensures.1 (λ why is first lent_first lent so_far. answering_lacks first.session c.args.self.now.session _ _ _ _ so_far.0 why is)
