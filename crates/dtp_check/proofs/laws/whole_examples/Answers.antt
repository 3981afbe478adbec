use Rattle.dtp_check.proofs.WholeExamples.{exit_is_whole, line_is_whole, comment_is_not}
use Rattle.dtp_check.proofs.laws.whole_examples.Goals as goal

pub returns-clause-at_exit : goal.returns-clause-at_exit
returns-clause-at_exit c = exit_is_whole c.reads_back.ensures

pub returns-clause-with_line : goal.returns-clause-with_line
returns-clause-with_line c = line_is_whole c.reads_back.ensures

pub returns-clause-in_comment : goal.returns-clause-in_comment
returns-clause-in_comment c = comment_is_not c.reads_back.ensures c.one_outcome.ensures
