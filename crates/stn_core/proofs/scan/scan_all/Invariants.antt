use Rattle.std.proofs.Common.{length}
use Rattle.stn_core.specs.code.Uppers.{IsUpper}
use Rattle.stn_core.proofs.scan.scan_all.Given as goal

abbrev pub invariant-order : goal.invariant-order
invariant-order l = IsUpper (length l.fn.values) l.literals l.values
