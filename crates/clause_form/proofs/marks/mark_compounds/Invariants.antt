use Rattle.std.proofs.Common.{◌≡◌, ◌<◌, ◌||◌, ℕ, length, drop, get_or, false}
use Rattle.idl_node.specs.Nodes.{shown}
use Rattle.clause_form.specs.Polarity.{is_among, compounds}
use Rattle.clause_form.proofs.marks.mark_compounds.Given as goal

abbrev pub invariant-loop-member : goal.invariant-loop-member
invariant-loop-member l = record {
  count : length l.marks ≡ length l.fn.marks;
  each : (k : ℕ) → k < length l.fn.marks → (is_among k (compounds (shown l.nodes) (drop l.member-index l.members)) || get_or l.marks k false) ≡ (is_among k (compounds (shown l.nodes) l.members) || get_or l.fn.marks k false);
}
