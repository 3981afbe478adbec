use Rattle.std.proofs.Common.{arith, ap, ◌∙◌, ◌≡◌, List, length, Bool, false, get_or}
use Rattle.idl_node.specs.Truth.{point_values}
use Rattle.kept_schedule.proofs.Tested.{seen_count}
use Rattle.kept_schedule.proofs.Tested.{marked_true}
use Rattle.kept_schedule.proofs.testing.are_true.Goals.{then-count-gt0, else-count-gt0}
use Rattle.kept_schedule.proofs.testing.are_true.Goals as goal

pub returns-clause-truth : goal.returns-clause-truth
returns-clause-truth c =
    let nodes = c.args.nodes.now in
    let count : length c.as_slice-count.result.now ≡ length c.args.nodes.now = seen_count c.as_slice-count.result.now ∙ ap length c.as_slice-count.ensures.nodes in
    λ t. elim c.if-count-gt0.branch [
      | then-count-gt0 w ↦ marked_true nodes (point_values c.args.named.now) c.if-count-gt0.marks c.args.roots.now (ap length w.marks-is ∙ w.eval.ensures.room)
          (λ k lt. ap (λ (bs : List Bool). get_or bs k false) w.marks-is ∙ w.eval.ensures.each k (omega (arith, count, lt))) (c.all_marked.ensures t)
      | else-count-gt0 w ↦ marked_true nodes (point_values c.args.named.now) c.if-count-gt0.marks c.args.roots.now (ap length w.marks-is ∙ c.requires.room)
          (λ k lt. absurd (let none = w.if-count-gt0.false in omega (arith, count, lt))) (c.all_marked.ensures t)
    ]
