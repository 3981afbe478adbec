use Rattle.std.proofs.Common.{◌≡◌, ◌++◌, drop}
use Rattle.dtp_jobshop.specs.code.Starts.{numbers_of}
use Rattle.dtp_jobshop.proofs.plan.numbers_of.Given as goal

abbrev pub invariant-loop-value : goal.invariant-loop-value
invariant-loop-value l = record { so_far : l.numbers.items ++ numbers_of (drop l.value-index l.values) ≡ numbers_of l.values }
