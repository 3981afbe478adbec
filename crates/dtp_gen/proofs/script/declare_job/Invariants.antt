use Rattle.std.proofs.Common.{◌≡◌, ◌++◌}
use Rattle.dtp_gen.specs.Scripts.{texts, declaration}
use Rattle.dtp_gen.proofs.script.declare_job.Given as goal

abbrev pub invariant-operations : goal.invariant-operations
invariant-operations l = record { written : l.out.items ≡ l.fn.out.items ++ texts l.k (declaration l.job) }
