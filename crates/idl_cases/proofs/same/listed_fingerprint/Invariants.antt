use Rattle.std.proofs.Common.{take}
use Rattle.idl_cases.specs.code.GuardBounds.{AreGuardsBelow}
use Rattle.idl_cases.proofs.same.listed_fingerprint.Given as goal

abbrev pub invariant-loop-case : goal.invariant-loop-case
invariant-loop-case l = AreGuardsBelow l.count (take l.case-index l.cases)
