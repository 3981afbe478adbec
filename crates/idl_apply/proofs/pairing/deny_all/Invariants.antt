use Rattle.std.proofs.Common.{◌≡◌, ◌++◌, ℕ, List, length, take, drop}
use Rattle.idl_linear.specs.Linear.{LinearValue}
use Rattle.idl_apply.specs.code.Pairing.{case_related}
use Rattle.idl_apply.specs.declared.comparing.Relation.{Relation}
use Rattle.idl_apply.proofs.pairing.deny_all.Given as goal

abbrev pub invariant-loop-guard : goal.invariant-loop-guard
invariant-loop-guard l = record {
  rest : (relation : Relation) (rest : List ℕ) (linear : LinearValue)
      → case_related relation l.fn.nodes l.fn.members.items (l.guards ++ rest) linear ≡ case_related relation l.nodes l.members.items (drop l.guard-index l.guards ++ rest) linear;
  front : take (length l.fn.nodes) l.nodes ≡ l.fn.nodes;
}
