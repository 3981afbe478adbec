use Rattle.std.proofs.Common.{◌≡◌, ◌++◌}
use Rattle.job_shop.specs.Scripts.{each}
use Rattle.job_shop.specs.code.Lines.{goes_on_line}
use Rattle.job_shop.proofs.script.follow_all.Given as goal

abbrev pub invariant-operations : goal.invariant-operations
invariant-operations l = record { written : l.out.items ≡ l.fn.out.items ++ each l.k (goes_on_line l.jobs l.job) }
