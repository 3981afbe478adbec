use Rattle.std.proofs.Common.{◌≡◌, ◌++◌}
use Rattle.job_shop.specs.Scripts.{each}
use Rattle.job_shop.specs.code.Lines.{later_lines}
use Rattle.job_shop.proofs.script.part_machine.Given as goal

abbrev pub invariant-jobs : goal.invariant-jobs
invariant-jobs l = record { written : l.out.items ≡ l.fn.out.items ++ each l.a (later_lines l.jobs l.machine) }
