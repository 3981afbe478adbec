use Rattle.std.proofs.Common.{refl, sym, subst}
use Rattle.script_walk.specs.declared.walk.Event.TheVariants.{Told}
use Rattle.dtp_check.specs.declared.judge.Judging.{Judging}
use Rattle.dtp_check.specs.code.Judging.{IsJudgingSoFar}
use Rattle.dtp_check.proofs.Visiting.{told_further, less_read}
use Rattle.dtp_check.proofs.judge.JudgingVisitor.told.Goals as goal

pub returns-clause-so_far : goal.returns-clause-so_far
returns-clause-so_far g c = λ at.
    let n = c.args.self.now in
    let f = at.first in
    let b = at.before in
    let h = subst (λ (z : Judging). IsJudgingSoFar g.K.Keeps.leads g.K.Keeps.trees f.walk.lexer.bytes f.entries at.lent_first b.walk z.made z.earlier z.entries c.args._keeps.now) (sym at.comes.1) at.so_far in (
      told_further g.K.Keeps.leads g.K.Keeps.trees c.one_outcome.ensures f.walk.lexer.bytes f.entries at.lent_first b.walk n.made n.earlier n.entries c.args._keeps.now h n.walk c.args._id c.args._notice at.comes.0 c.exit_law.ensures.alone c.mode_law.ensures.kept,
      less_read g.K.Keeps.leads g.K.Keeps.trees c.one_outcome.ensures f.walk.lexer.bytes f.entries at.lent_first b.walk n.made n.earlier n.entries c.args._keeps.now h n.walk (Told c.args._id c.args._notice) at.comes.0 n.walk refl,
    )
