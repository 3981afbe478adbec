use Rattle.std.proofs.Common.{◌≡◌, ◌++◌}
use Rattle.dtp_gen.specs.Scripts.{texts, job_declarations}
use Rattle.dtp_gen.proofs.script.declare_all.Given as goal

abbrev pub invariant-jobs : goal.invariant-jobs
invariant-jobs l = record { written : l.out.items ≡ l.fn.out.items ++ texts l.job (job_declarations l.shop) }
