use Rattle.std.proofs.Common.{take}
use Rattle.idl_linear.specs.code.Trees.{AllWithin}
use Rattle.idl_linear.proofs.leaf.greatest_of.Given as goal

abbrev pub invariant-loop-summand : goal.invariant-loop-summand
invariant-loop-summand l = AllWithin l.greatest (take l.summand-index l.items)
