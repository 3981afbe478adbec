use Rattle.std.proofs.Common.{◌≡◌, drop, get_or, false}
use Rattle.idl_node.specs.Truth.{point_values}
use Rattle.idl_value.specs.code.Evaluating.{first_value}
use Rattle.idl_value.proofs.evaluation.first_listed.Given as goal

abbrev pub invariant-loop-case : goal.invariant-loop-case
invariant-loop-case l =
    first_value (λ g. get_or l.marks g false) (point_values l.values) l.cases ≡ first_value (λ g. get_or l.marks g false) (point_values l.values) (drop l.case-index l.cases)
