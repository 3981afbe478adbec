use Rattle.std.proofs.Common.{◌^◌, drop}
use Rattle.std.specs.Prelude.{All}
use Rattle.refute_tree.specs.code.Views.{literals_of}
use Rattle.cert_text.specs.Limits.{LiteralWithin}
use Rattle.dtp_convert.proofs.fitting.is_cycle_within.Given as goal

abbrev pub invariant-loop-place : goal.invariant-loop-place
invariant-loop-place l = All (LiteralWithin (2 ^ 32)) (drop l.place (literals_of l.cycle)) → All (LiteralWithin (2 ^ 32)) (literals_of l.cycle)
