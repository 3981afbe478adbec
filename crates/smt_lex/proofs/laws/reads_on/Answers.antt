use Rattle.smt_lex.proofs.BeforeClosing.{reads_before, reads_closing}
use Rattle.smt_lex.proofs.laws.reads_on.Goals as goal

pub returns-clause-before : goal.returns-clause-before
returns-clause-before c = reads_before

pub returns-clause-closing : goal.returns-clause-closing
returns-clause-closing c = reads_closing
