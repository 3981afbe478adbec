use Rattle.std.proofs.Common.{sym, subst}
use Rattle.dtp_check.specs.declared.judge.Judging.{Judging}
use Rattle.dtp_check.specs.code.Judging.{IsJudgingSoFar}
use Rattle.dtp_check.proofs.Visiting.{ended_over}
use Rattle.dtp_check.proofs.judge.JudgingVisitor.ended.Goals as goal

pub returns-clause-ends : goal.returns-clause-ends
returns-clause-ends g c = λ at.
    let n = c.args.self.now in
    let f = at.first in
    let b = at.before in
    let h = subst (λ (z : Judging). IsJudgingSoFar g.K.Keeps.leads g.K.Keeps.trees f.walk.lexer.bytes f.entries at.lent_first b.walk z.made z.earlier z.entries c.args._keeps.now) (sym at.comes.1) at.so_far in
    ended_over g.K.Keeps.leads g.K.Keeps.trees c.one_outcome.ensures f.walk.lexer.bytes f.entries at.lent_first b.walk n.made n.earlier n.entries c.args._keeps.now h n.walk c.surplus.new.entries c.in_ok-judgement.judgement at.comes.0 c.in_ok-judgement.ensures
