use Rattle.std.proofs.Common.{◌≡◌, map, take, drop}
use Rattle.refute_tree.specs.Trees.{stated}
use Rattle.cert_check.specs.Flaws.{lemmas_flaw, refutation_flaw}
use Rattle.cert_check.proofs.check.check_refutation.Given as goal

abbrev pub invariant-loop-number : goal.invariant-loop-number
invariant-loop-number l =
    lemmas_flaw l.problem.points l.problem.clauses (map stated (take l.number l.refutation)) (drop l.number l.refutation)
    ≡ refutation_flaw l.problem.points l.problem.clauses l.refutation
