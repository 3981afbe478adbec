use Rattle.std.proofs.Common.{length}
use Rattle.relaxed_lemmas.proofs.writing.write_steps.Given as goal

abbrev pub decreases-steps : goal.decreases-steps
decreases-steps l = length l.reader
