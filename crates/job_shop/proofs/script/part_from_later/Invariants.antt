use Rattle.std.proofs.Common.{◌≡◌, ◌++◌}
use Rattle.job_shop.specs.Scripts.{each}
use Rattle.job_shop.specs.code.Lines.{apart_lines}
use Rattle.job_shop.proofs.script.part_from_later.Given as goal

abbrev pub invariant-later : goal.invariant-later
invariant-later l = record { written : l.out.items ≡ l.fn.out.items ++ each l.later (apart_lines l.jobs l.machine l.a) }
