use Rattle.std.proofs.Common.{◌-◌, ◌+◌}
use Rattle.std.specs.Vec.{vec_len}
use Rattle.smt_sexpr.proofs.PrinterLoop.{size, Writing}
use Rattle.smt_sexpr.proofs.printer.write.Given as goal

abbrev pub invariant-lists : goal.invariant-lists
invariant-lists l = Writing l.fn.table l.fn.id l.fn.out.items l.stack.items l.out.items

abbrev pub decreases-lists : goal.decreases-lists
decreases-lists l = (vec_len l.fn.out + size l.fn.table l.fn.id) - vec_len l.out
