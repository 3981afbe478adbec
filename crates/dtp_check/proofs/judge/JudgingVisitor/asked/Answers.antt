use Rattle.std.proofs.Common.{sym, subst}
use Rattle.script_walk.specs.declared.walk.Event.TheVariants.{Asked}
use Rattle.dtp_check.specs.declared.judge.Judging.{Judging}
use Rattle.dtp_check.specs.code.Judging.{IsJudgingSoFar}
use Rattle.dtp_check.proofs.Making.{going_on}
use Rattle.dtp_check.proofs.Visiting.{asked_so, asked_few, asked_made, asked_further, asked_over, less_read}
use Rattle.dtp_check.proofs.judge.JudgingVisitor.asked.Goals as goal

pub judge_question-requires-clause-asked : goal.judge_question-requires-clause-asked
judge_question-requires-clause-asked g c =
    let at = c.requires in
    let n = c.args.self.now in
    let f = at.first in
    let b = at.before in
    let h = subst (λ (z : Judging). IsJudgingSoFar g.K.Keeps.leads g.K.Keeps.trees f.walk.lexer.bytes f.entries at.lent_first b.walk z.made z.earlier z.entries c.args.keeps.now) (sym at.comes.1) at.so_far in
    asked_so g.K.Keeps.leads g.K.Keeps.trees c.one_outcome.ensures f.walk.lexer.bytes f.entries at.lent_first b.walk n.made n.earlier n.entries c.args.keeps.now h n.walk c.args._id c.args.question at.comes.0

pub judge_question-requires-clause-made : goal.judge_question-requires-clause-made
judge_question-requires-clause-made g c =
    let at = c.requires in
    let n = c.args.self.now in
    let f = at.first in
    let b = at.before in
    let h = subst (λ (z : Judging). IsJudgingSoFar g.K.Keeps.leads g.K.Keeps.trees f.walk.lexer.bytes f.entries at.lent_first b.walk z.made z.earlier z.entries c.args.keeps.now) (sym at.comes.1) at.so_far in
    asked_made g.K.Keeps.leads g.K.Keeps.trees c.one_outcome.ensures f.walk.lexer.bytes f.entries at.lent_first b.walk n.made n.earlier n.entries c.args.keeps.now h n.walk c.args._id c.args.question at.comes.0 c.mode_law.ensures.kept

pub judge_question-requires-clause-few : goal.judge_question-requires-clause-few
judge_question-requires-clause-few g c =
    let at = c.requires in
    let n = c.args.self.now in
    let f = at.first in
    let b = at.before in
    let h = subst (λ (z : Judging). IsJudgingSoFar g.K.Keeps.leads g.K.Keeps.trees f.walk.lexer.bytes f.entries at.lent_first b.walk z.made z.earlier z.entries c.args.keeps.now) (sym at.comes.1) at.so_far in
    asked_few g.K.Keeps.leads g.K.Keeps.trees c.one_outcome.ensures f.walk.lexer.bytes f.entries at.lent_first b.walk n.made n.earlier n.entries c.args.keeps.now h n.walk c.args._id c.args.question at.comes.0

pub judge_question-requires-clause-suffices : goal.judge_question-requires-clause-suffices
judge_question-requires-clause-suffices g c =
    let at = c.requires in
    let n = c.args.self.now in
    let f = at.first in
    let b = at.before in
    let h = subst (λ (z : Judging). IsJudgingSoFar g.K.Keeps.leads g.K.Keeps.trees f.walk.lexer.bytes f.entries at.lent_first b.walk z.made z.earlier z.entries c.args.keeps.now) (sym at.comes.1) at.so_far in
    h.suffices

pub judge_question-requires-clause-trees : goal.judge_question-requires-clause-trees
judge_question-requires-clause-trees g c =
    let at = c.requires in
    let n = c.args.self.now in
    let f = at.first in
    let b = at.before in
    let h = subst (λ (z : Judging). IsJudgingSoFar g.K.Keeps.leads g.K.Keeps.trees f.walk.lexer.bytes f.entries at.lent_first b.walk z.made z.earlier z.entries c.args.keeps.now) (sym at.comes.1) at.so_far in
    h.trees

pub returns-in-Going-clause-so_far : goal.returns-in-Going-clause-so_far
returns-in-Going-clause-so_far g c = λ none at.
    let n = c.args.self.now in
    let f = at.first in
    let b = at.before in
    let h = subst (λ (z : Judging). IsJudgingSoFar g.K.Keeps.leads g.K.Keeps.trees f.walk.lexer.bytes f.entries at.lent_first b.walk z.made z.earlier z.entries c.args.keeps.now) (sym at.comes.1) at.so_far in (
      asked_further g.K.Keeps.leads g.K.Keeps.trees c.one_outcome.ensures f.walk.lexer.bytes f.entries at.lent_first b.walk n.made n.earlier n.entries c.args.keeps.now h n.walk c.args._id c.args.question at.comes.0 c.exit_law.ensures.alone c.judge_question.new.walk c.judge_question.new.earlier c.judge_question.new.entries c.judge_question.new.keeps c.in_ok-progress.progress c.in_ok-progress.ensures.turn c.judge_question.new.made c.in-Going.is c.judge_question.ensures.lexer c.judge_question.ensures.sexprs
          (c.in_ok-progress.ensures.suffices (going_on c.in_ok-progress.progress c.in-Going.is)) c.judge_question.ensures.trees (c.in_ok-progress.ensures.made (going_on c.in_ok-progress.progress c.in-Going.is)),
      less_read g.K.Keeps.leads g.K.Keeps.trees c.one_outcome.ensures f.walk.lexer.bytes f.entries at.lent_first b.walk n.made n.earlier n.entries c.args.keeps.now h n.walk (Asked c.args._id c.args.question) at.comes.0 c.judge_question.new.walk c.judge_question.ensures.lexer,
    )

pub returns-in-Judged-clause-ends : goal.returns-in-Judged-clause-ends
returns-in-Judged-clause-ends g c = λ at.
    let n = c.args.self.now in
    let f = at.first in
    let b = at.before in
    let h = subst (λ (z : Judging). IsJudgingSoFar g.K.Keeps.leads g.K.Keeps.trees f.walk.lexer.bytes f.entries at.lent_first b.walk z.made z.earlier z.entries c.args.keeps.now) (sym at.comes.1) at.so_far in
    asked_over g.K.Keeps.leads g.K.Keeps.trees c.one_outcome.ensures f.walk.lexer.bytes f.entries at.lent_first b.walk n.made n.earlier n.entries c.args.keeps.now h n.walk c.args._id c.args.question at.comes.0 c.exit_law.ensures.alone c.judge_question.new.walk c.judge_question.new.earlier c.judge_question.new.entries c.judge_question.new.keeps c.in_ok-progress.progress c.in_ok-progress.ensures.turn c.in-Judged.judgement c.in-Judged.is
