use Rattle.dtp_run.proofs.Runs.{same_lines, same_verdicts}
use Rattle.dtp_run.proofs.laws.verdicts_of_one_thread.Goals as goal

pub returns-clause-lines : goal.returns-clause-lines
returns-clause-lines c = same_lines c.one_transcript.ensures.lines

pub returns-clause-verdicts : goal.returns-clause-verdicts
returns-clause-verdicts c = same_verdicts c.one_transcript.ensures.verdicts
