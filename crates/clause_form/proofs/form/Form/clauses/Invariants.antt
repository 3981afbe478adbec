use Rattle.std.proofs.Common.{◌≡◌, ℕ, List, length}
use Rattle.idl_node.specs.Nodes.{shown}
use Rattle.clause_form.specs.ClauseForm.{clauses_below}
use Rattle.clause_form.specs.code.Marking.{AreMarks, ArePolarityMarks, IsNumbering}
use Rattle.clause_form.specs.Polarity.{Polarity}
use Rattle.clause_form.proofs.form.Form.clauses.Given as goal

abbrev pub invariant-loop-number : goal.invariant-loop-number
invariant-loop-number l = record {
  so_far : (p : Polarity) (points : ℕ) (numbers : List ℕ) → IsNumbering points numbers (length l.self.nodes.now) l.self.fresh.now → ArePolarityMarks (length l.self.nodes.now) l.polarity.asserted.items l.polarity.denied.items p
      → AreMarks (length l.self.nodes.now) l.inner numbers → l.clauses.items ≡ clauses_below points (shown l.self.nodes.now) p numbers l.number;
}
