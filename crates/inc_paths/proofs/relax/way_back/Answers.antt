use Rattle.std.proofs.Common.{arith, ap, subst, ◌∙◌, ◌≡◌, ◌<◌, ◌-◌, ◌++◌, ◌∷◌, []}
use Rattle.stn_core.specs.Literal.{value_at}
use Rattle.inc_paths.specs.declared.labels.Lowering.{Lowering}
use Rattle.inc_paths.specs.code.Trails.{entry_at}
use Rattle.inc_paths.proofs.Backs.{IsBack, back_more, back_done}
use Rattle.inc_paths.proofs.relax.way_back.Goals as goal

pub back-preserved : goal.back-preserved
back-preserved c =
    let ne = c.back-test.true in
    let some : 0 < c.back.number = omega arith in
    let walk : c.push-in-back.new.self.items ≡ c.back.walk.items ++ (entry_at c.args.labels.now.trail (c.back.number - 1)).literal ∷ [] = c.in_ok-push-2.ensures.items ∙ ap (λ (d : Lowering). c.back.walk.items ++ d.literal ∷ []) c.entry-entry.ensures.entry in
    let parent : c.entry-entry.result.parent ≡ (entry_at c.args.labels.now.trail (c.back.number - 1)).parent = ap (λ (d : Lowering). d.parent) c.entry-entry.ensures.entry in
    rw (walk, parent) (back_more c.args.arcs.now.literals c.args.labels.now c.args.last.x (value_at c.args.labels.now.values c.args.last.x) c.back.walk.items c.back.number c.requires.traced c.back.invariant some)

pub returns : goal.returns
returns c =
    let end : c.back.number ≡ 0 = c.back-test.false in
    let cycle : c.new.result ≡ c.back.walk.items = c.new.ensures in
    rw cycle (back_done c.args.arcs.now.literals c.args.labels.now c.args.last.x (value_at c.args.labels.now.values c.args.last.x) c.back.walk.items (subst (IsBack c.args.arcs.now.literals c.args.labels.now c.args.last.x (value_at c.args.labels.now.values c.args.last.x) c.back.walk.items) end c.back.invariant))
