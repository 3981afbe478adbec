use Rattle.std.proofs.Common.{◌≡◌, ◌++◌, ℕ, List, length, map, take}
use Rattle.idl_node.specs.Nodes.{shown}
use Rattle.clause_form.specs.code.Marking.{IsNumbering, signed_literal}
use Rattle.clause_form.proofs.form.Form.append_literals.Given as goal

abbrev pub invariant-loop-member : goal.invariant-loop-member
invariant-loop-member l = record {
  so_far : (points : ℕ) (inner : List ℕ) → IsNumbering points inner (length l.self.nodes.now) l.self.fresh.now → l.literals.items ≡ l.fn.literals.items ++ map (signed_literal l.denied points (shown l.self.nodes.now) inner) (take l.member-index l.members);
}
