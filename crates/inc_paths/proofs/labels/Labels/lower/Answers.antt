use Rattle.std.proofs.Common.{arith, rules, vec_len, refl, ap, sym, ◌∙◌, ◌≡◌, ◌<◌, ◌++◌, ◌∷◌, [], length, FitsSigned}
use Rattle.std.specs.Int.{w128}
use Rattle.std.proofs.lemmas.Int.{to_z-of_z}
use Rattle.std.proofs.lemmas.Grind.{common_steps}
use Rattle.std.specs.BinaryHeap.{heap_items}
use Rattle.stn_core.specs.Literal.{value_at, most_allowed}
use Rattle.inc_paths.specs.code.Trails.{Labelled, lowering}
use Rattle.inc_paths.proofs.Undoing.{labelled_more}
use Rattle.inc_paths.proofs.labels.Labels.lower.Goals as goal

pub invariant_of-self-2 : goal.invariant_of-self-2
invariant_of-self-2 c =
    let shown : length c.self.inside.values.items ≡ length c.args.self.now.values = ap (λ (l : Labelled). length l.values) c.self.view_is in
    let lt : c.args.literal.x < length c.self.inside.values.items = omega (arith, c.requires.x_in) in
    let x : c.index-old.result.now ≡ value_at c.self.inside.values.items c.args.literal.x = grind (arith, common_steps) in
    let fx : FitsSigned w128 c.index-old.result.now = search rules in
    let fy : FitsSigned w128 c.allowed-now.result = search rules in
    let values : c.self.inside.values.items ≡ c.args.self.now.values = ap (λ (l : Labelled). l.values) c.self.view_is in
    let now : c.allowed-now.result ≡ most_allowed c.self.inside.values.items c.args.literal = rw values c.allowed-now.ensures in
    let pushed = simp to_z-of_z at c.in_ok-push-2.ensures.items in
    let trail : c.push-2.new.self.items ≡ c.self.inside.trail.items ++ lowering c.self.inside.values.items c.args.literal c.args.parent ∷ [] = rw (← x, ← now) pushed in (
      rw trail (labelled_more c.self.inside.values.items c.self.inside.trail.items c.self.inside.start c.self.inside.before.items (lowering c.self.inside.values.items c.args.literal c.args.parent) _ c.self.invariant.0 lt refl),
      c.in_ok-push.ensures.heap_order c.self.invariant.1,
    )

pub returns-clause-queue : goal.returns-clause-queue
returns-clause-queue c =
    let len : vec_len c.self.inside.trail ≡ length c.self.inside.trail.items = search rules in
    let trail : length c.args.self.now.trail ≡ c.len.result = sym (c.len.ensures ∙ len ∙ ap (λ (l : Labelled). length l.trail) c.self.view_is) in
    let queue : c.args.self.now.queue ≡ heap_items c.self.inside.queue = sym (ap (λ (l : Labelled). l.queue) c.self.view_is) in
    rw (sym c.fall_of-fall.ensures, trail, queue) c.in_ok-push.ensures.permutation
