use Rattle.std.proofs.Common.{◌≡◌, ◌++◌}
use Rattle.dtp_gen.specs.Scripts.{texts, machine_orders}
use Rattle.dtp_gen.proofs.script.part_all.Given as goal

abbrev pub invariant-machines : goal.invariant-machines
invariant-machines l = record { written : l.out.items ≡ l.fn.out.items ++ texts l.machine (machine_orders l.shop) }
