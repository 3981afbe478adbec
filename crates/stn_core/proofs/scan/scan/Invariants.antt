use Rattle.std.proofs.Common.{length}
use Rattle.stn_core.specs.code.Uppers.{IsUpper}
use Rattle.stn_core.proofs.scan.scan.Given as goal

abbrev pub invariant-literals : goal.invariant-literals
invariant-literals l = IsUpper (length l.fn.values) l.literals l.values
