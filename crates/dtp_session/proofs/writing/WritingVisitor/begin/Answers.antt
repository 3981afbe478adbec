use Rattle.dtp_session.proofs.Looping.{ok_quiet}
use Rattle.dtp_session.proofs.Visiting.{answering_starts, opening_breaks, err_and}
use Rattle.dtp_session.proofs.writing.WritingVisitor.begin.Goals as goal

pub returns-in_err-write-clause-breaks : goal.returns-in_err-write-clause-breaks
returns-in_err-write-clause-breaks g c =
    err_and c.from_residual.result _ _ c.from_residual.ensures.1 (λ why is. opening_breaks c.args.self.now.session c.requires.0 _ _ _ _ why c.in_err-write.field-0.0 is c.in_err-write.ensures.part c.in_err-write.ensures.fault)

pub returns-clause-so_far : goal.returns-clause-so_far
returns-clause-so_far g c = (answering_starts c.args.self.now.session c.requires.0 _ _ _ _ c.in_ok-write.ensures.whole (ok_quiet _ _ _ c.in_ok-write.ensures.fault), c.requires.1)
