use Rattle.std.proofs.Common.{length}
use Rattle.idl_linear.proofs.linear.Linear.fingerprint.Given as goal

abbrev pub decreases-loop-summand : goal.decreases-loop-summand
decreases-loop-summand l = length l.left
