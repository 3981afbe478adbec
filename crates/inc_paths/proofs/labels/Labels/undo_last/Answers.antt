use Rattle.std.proofs.Common.{arith, rules, ◌<◌, ◌≡◌, length}
use Rattle.std.proofs.lemmas.Grind.{common_steps}
use Rattle.inc_paths.proofs.Undoing.{labelled_less}
use Rattle.inc_paths.proofs.labels.Labels.undo_last.Goals as goal

pub invariant_of-self-else-last-self : goal.invariant_of-self-else-last-self
invariant_of-self-else-last-self c =
    let some : 0 < length c.self.inside.trail.items = search rules in
    let last : c.len-last.result ≡ length c.self.inside.trail.items = search rules in
    (labelled_less c.self.inside.values.items c.self.inside.trail.items c.self.inside.start c.self.inside.before.items c.self.invariant.0 some _ _ (grind (arith, common_steps)) (grind (arith, common_steps)) (omega (arith, c.if-last-self.false)), c.self.invariant.1)
