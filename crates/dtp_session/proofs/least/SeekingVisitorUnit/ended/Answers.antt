use Rattle.std.proofs.Common.{sym, subst, ◌∙◌, Option}
use Rattle.dtp_session.specs.declared.least.Minimum.{Minimum}
use Rattle.dtp_session.specs.Leasts.{IsLeastOf}
use Rattle.dtp_session.proofs.Leading.{least_ends}
use Rattle.dtp_session.proofs.Visiting.{ended_here}
use Rattle.dtp_session.proofs.least.SeekingVisitorUnit.ended.Goals as goal

pub returns-clause-ends : goal.returns-clause-ends
returns-clause-ends g c = λ at.
    let n = c.args.self.now in
    subst (λ (o : Option Minimum). IsLeastOf at.first.session.walk.lexer.bytes o) (sym (c.take.ensures.value ∙ at.comes.1))
    (least_ends at.first.session.walk.lexer.bytes at.before.session at.before.least at.so_far.0.so_far (ended_here at.before.session n.session at.so_far.0.so_far.s at.so_far.0.so_far.stands at.comes.0))
