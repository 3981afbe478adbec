use Rattle.std.proofs.Common.{length}
use Rattle.relaxed_lemmas.proofs.plan.Survey.note_lemma.Given as goal

abbrev pub decreases-steps : goal.decreases-steps
decreases-steps l = length l.reader
