use Rattle.std.proofs.Common.{◌≡◌, ◌++◌}
use Rattle.dtp_gen.specs.Scripts.{texts, apart_from_later}
use Rattle.dtp_gen.proofs.script.part_machine.Given as goal

abbrev pub invariant-jobs : goal.invariant-jobs
invariant-jobs l = record { written : l.out.items ≡ l.fn.out.items ++ texts l.a (apart_from_later l.shop l.machine) }
