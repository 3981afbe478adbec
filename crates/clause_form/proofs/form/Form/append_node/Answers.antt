use Rattle.std.proofs.Common.{refl, ◌≡◌, ◌++◌, ℕ, List, length, get_or}
use Rattle.idl_node.specs.Nodes.{NodeValue, node_value, shown}
use Rattle.clause_form.specs.ClauseForm.{asserted_clauses, denied_clauses, when}
use Rattle.clause_form.specs.code.Marking.{IsNumbering}
use Rattle.clause_form.proofs.Passes.{shown_get}
use Rattle.clause_form.proofs.Pieces.{when_written, when_left, node_written}
use Rattle.clause_form.proofs.form.Form.append_node.Goals.{Joined-marks-2, then-marks+in_ok-append_asserted, else-marks, then-marks-2+in_ok-append_denied, else-marks-2}
use Rattle.clause_form.proofs.form.Form.append_node.Goals as goal

abbrev value_of : Joined-marks-2 → NodeValue
value_of c = node_value (get_or c.args.self.now.nodes.now c.args.number c.index-self-number.result)

asserted_written : (c : Joined-marks-2) (points : ℕ) (inner : List ℕ) → IsNumbering points inner (length c.args.self.now.nodes.now) c.args.self.now.fresh.now
    → c.if-marks.clauses.items ≡ c.args.clauses.now.items ++ when c.args.marks.asserted (asserted_clauses points (shown c.args.self.now.nodes.now) inner c.args.number (value_of c))
asserted_written c points inner n = elim c.if-marks.branch [
  | then-marks+in_ok-append_asserted w ↦ rw w.clauses-is (when_written _ _ _ _ w.if-marks.true (w.in_ok-append_asserted.ensures c.args.number points inner n))
  | else-marks w ↦ rw w.clauses-is (when_left _ _ _ _ w.if-marks.false refl)
]

denied_written : (c : Joined-marks-2) (points : ℕ) (inner : List ℕ) → IsNumbering points inner (length c.args.self.now.nodes.now) c.args.self.now.fresh.now
    → c.if-marks-2.clauses.items ≡ c.if-marks.clauses.items ++ when c.args.marks.denied (denied_clauses points (shown c.args.self.now.nodes.now) inner c.args.number (value_of c))
denied_written c points inner n = elim c.if-marks-2.branch [
  | then-marks-2+in_ok-append_denied w ↦ rw w.clauses-is (when_written _ _ _ _ w.if-marks-2.true (w.in_ok-append_denied.ensures c.args.number points inner n))
  | else-marks-2 w ↦ rw w.clauses-is (when_left _ _ _ _ w.if-marks-2.false refl)
]

pub returns-in_ok-append_inner : goal.returns-in_ok-append_inner
returns-in_ok-append_inner c = λ points inner n.
    let at = (goal.at.returns-in_ok-append_inner c).Joined-marks-2 in
    node_written points (shown c.args.self.now.nodes.now) inner c.args.marks c.args.number _ (value_of at) _ _ _ _ (shown_get c.args.self.now.nodes.now c.args.number c.index-self-number.result c.requires.within) (n.each c.args.number c.requires.within)
    (asserted_written at points inner n) (denied_written at points inner n) (when_written _ _ _ _ c.if-marks-3.true (c.in_ok-append_inner.ensures points inner n))

pub returns-else-marks-3 : goal.returns-else-marks-3
returns-else-marks-3 c = λ points inner n.
    let at = (goal.at.returns-else-marks-3 c).Joined-marks-2 in
    node_written points (shown c.args.self.now.nodes.now) inner c.args.marks c.args.number _ (value_of at) _ _ _ _ (shown_get c.args.self.now.nodes.now c.args.number c.index-self-number.result c.requires.within) (n.each c.args.number c.requires.within)
    (asserted_written at points inner n) (denied_written at points inner n) (when_left _ _ _ _ c.if-marks-3.false refl)
