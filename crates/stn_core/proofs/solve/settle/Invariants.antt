use Rattle.std.proofs.Common.{length}
use Rattle.stn_core.specs.code.Uppers.{IsUpper}
use Rattle.stn_core.proofs.solve.settle.Given as goal

abbrev pub invariant-rounds : goal.invariant-rounds
invariant-rounds l = IsUpper (length l.fn.values) l.literals l.values
