use Rattle.dtp_session.specs.declared.piece.Piece.TheVariants.{Closing}
use Rattle.dtp_session.proofs.Looping.{ok_quiet}
use Rattle.dtp_session.proofs.Visiting.{ended_is_next, answering_breaks, answering_ends, err_and}
use Rattle.dtp_session.proofs.writing.WritingVisitor.ended.Goals as goal

pub returns-in_err-write-clause-breaks : goal.returns-in_err-write-clause-breaks
returns-in_err-write-clause-breaks g c =
    err_and c.from_residual.result _ _ c.from_residual.ensures.1 (λ why is at. answering_breaks at.first.session at.before.session _ _ _ _ at.so_far.0 c.args.self.now.session _ _ Closing why c.in_err-write.field-0.0 is (ended_is_next at.before.session c.args.self.now.session at.so_far.0.so_far.s at.so_far.0.so_far.stands at.comes.0) c.in_err-write.ensures.part c.in_err-write.ensures.fault)

pub returns-clause-ends : goal.returns-clause-ends
returns-clause-ends g c = λ at.
    let n = c.args.self.now.session in
    answering_ends at.first.session at.before.session _ _ _ _ at.so_far.0 n _ _ (ended_is_next at.before.session n at.so_far.0.so_far.s at.so_far.0.so_far.stands at.comes.0) c.in_ok-write.ensures.whole (ok_quiet _ _ _ c.in_ok-write.ensures.fault)
