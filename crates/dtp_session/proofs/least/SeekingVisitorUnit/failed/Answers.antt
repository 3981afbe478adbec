use Rattle.dtp_session.proofs.Leading.{least_stops}
use Rattle.dtp_session.proofs.Visiting.{failed_here}
use Rattle.dtp_session.proofs.least.SeekingVisitorUnit.failed.Goals as goal

pub returns-clause-ends : goal.returns-clause-ends
returns-clause-ends g c = λ at.
    let n = c.args.self.now in
    least_stops at.first.session.walk.lexer.bytes at.before.session at.before.least at.so_far.0.so_far (failed_here at.before.session n.session at.so_far.0.so_far.s at.so_far.0.so_far.stands c.args._kind at.comes.0)
