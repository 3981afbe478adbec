use Rattle.std.proofs.Common.{◌^◌, length}
use Rattle.std.specs.Prelude.{All}
use Rattle.cert_text.specs.declared.entry.Version.TheVariants.{One}
use Rattle.cert_text.specs.Limits.{StepWithin}
use Rattle.dtp_convert.proofs.fitting.are_steps_within.Given as goal

abbrev pub invariant-loop-step : goal.invariant-loop-step
invariant-loop-step l = All (StepWithin One (2 ^ 32)) l.reader → All (StepWithin One (2 ^ 32)) l.fn.reader

abbrev pub decreases-loop-step : goal.decreases-loop-step
decreases-loop-step l = length l.reader
