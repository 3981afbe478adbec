use Rattle.std.proofs.Common.{◌≡◌, take, true, false, get_or}
use Rattle.std.specs.List.{AllByRecursion}
use Rattle.kept_schedule.proofs.testing.all_marked.Given as goal

abbrev pub invariant-loop-root : goal.invariant-loop-root
invariant-loop-root l = record { so_far : AllByRecursion (λ r. get_or l.marks r false ≡ true) (take l.root-index l.roots) }
