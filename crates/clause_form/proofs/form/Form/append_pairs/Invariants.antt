use Rattle.std.proofs.Common.{◌≡◌, ◌++◌, ℕ, List, length, map, take}
use Rattle.idl_node.specs.Nodes.{shown}
use Rattle.clause_form.specs.code.Marking.{IsNumbering, literal_pair}
use Rattle.clause_form.proofs.form.Form.append_pairs.Given as goal

abbrev pub invariant-loop-member : goal.invariant-loop-member
invariant-loop-member l = record {
  so_far : (points : ℕ) (inner : List ℕ) → IsNumbering points inner (length l.self.nodes.now) l.self.fresh.now → l.clauses.items ≡ l.fn.clauses.items ++ map (literal_pair l.first l.denied points (shown l.self.nodes.now) inner) (take l.member-index l.members);
}
