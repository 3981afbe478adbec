use Rattle.std.proofs.Common.{◌≡◌, drop, get_or, false}
use Rattle.std.specs.List.{list_any}
use Rattle.idl_node.proofs.truth.any_holds.Given as goal

abbrev pub invariant-loop-member : goal.invariant-loop-member
invariant-loop-member l = record { rest : list_any (λ j. get_or l.marks j false) l.members ≡ list_any (λ j. get_or l.marks j false) (drop l.member-index l.members) }
