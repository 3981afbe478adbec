use Rattle.std.proofs.Common.{◌≡◌, ◌++◌}
use Rattle.dtp_gen.specs.Scripts.{texts, follows}
use Rattle.dtp_gen.proofs.script.follow_all.Given as goal

abbrev pub invariant-operations : goal.invariant-operations
invariant-operations l = record { written : l.out.items ≡ l.fn.out.items ++ texts l.k (follows l.shop l.job) }
