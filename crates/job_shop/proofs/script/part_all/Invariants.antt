use Rattle.std.proofs.Common.{◌≡◌, ◌++◌}
use Rattle.job_shop.specs.Scripts.{each}
use Rattle.job_shop.specs.code.Lines.{machine_lines}
use Rattle.job_shop.proofs.script.part_all.Given as goal

abbrev pub invariant-machines : goal.invariant-machines
invariant-machines l = record { written : l.out.items ≡ l.fn.out.items ++ each l.machine (machine_lines l.jobs) }
