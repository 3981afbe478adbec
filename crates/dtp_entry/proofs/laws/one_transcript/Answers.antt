use Rattle.dtp_entry.proofs.OneTranscript.{verdicts_one, entries_one, lines_one, transcript_one}
use Rattle.dtp_entry.proofs.laws.one_transcript.Goals as goal

pub returns-clause-verdicts : goal.returns-clause-verdicts
returns-clause-verdicts c = verdicts_one c.one_outcome.ensures

pub returns-clause-entries : goal.returns-clause-entries
returns-clause-entries c = entries_one c.one_outcome.ensures

pub returns-clause-lines : goal.returns-clause-lines
returns-clause-lines c = lines_one c.one_outcome.ensures

pub returns-clause-transcript : goal.returns-clause-transcript
returns-clause-transcript c = transcript_one c.one_outcome.ensures c.mode_law.ensures.asked
