use Rattle.std.proofs.Common.{◌≡◌, ◌++◌}
use Rattle.job_shop.specs.Scripts.{each}
use Rattle.job_shop.specs.code.Lines.{name_lines}
use Rattle.job_shop.proofs.script.declare_all.Given as goal

abbrev pub invariant-jobs : goal.invariant-jobs
invariant-jobs l = record { written : l.out.items ≡ l.fn.out.items ++ each l.job (name_lines l.jobs) }
