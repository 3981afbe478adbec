use Rattle.std.proofs.Common.{◌≡◌, drop, get_or, false}
use Rattle.std.specs.List.{list_all}
use Rattle.idl_value.proofs.evaluation.are_marked.Given as goal

abbrev pub invariant-loop-guard : goal.invariant-loop-guard
invariant-loop-guard l = list_all (λ g. get_or l.marks g false) l.guards ≡ list_all (λ g. get_or l.marks g false) (drop l.guard-index l.guards)
