use Rattle.std.proofs.Common.{◌≡◌, drop, get_or, false}
use Rattle.std.specs.List.{list_all}
use Rattle.idl_node.proofs.truth.all_hold.Given as goal

abbrev pub invariant-loop-member : goal.invariant-loop-member
invariant-loop-member l = record { rest : list_all (λ j. get_or l.marks j false) l.members ≡ list_all (λ j. get_or l.marks j false) (drop l.member-index l.members) }
