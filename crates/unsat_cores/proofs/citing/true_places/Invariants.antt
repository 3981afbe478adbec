use Rattle.std.proofs.Common.{◌≡◌, ◌++◌, drop}
use Rattle.unsat_cores.specs.code.Sweeping.{true_places}
use Rattle.unsat_cores.proofs.citing.true_places.Given as goal

abbrev pub invariant-loop-i : goal.invariant-loop-i
invariant-loop-i l = record { same : l.numbers.items ++ true_places l.i (drop l.i l.marks) ≡ true_places 0 l.marks }
