use Rattle.std.proofs.Common.{◌≡◌, ◌++◌}
use Rattle.dtp_gen.specs.Scripts.{texts, apart_on}
use Rattle.dtp_gen.proofs.script.part_from_later.Given as goal

abbrev pub invariant-later : goal.invariant-later
invariant-later l = record { written : l.out.items ≡ l.fn.out.items ++ texts l.later (apart_on l.shop l.machine l.a) }
