use Rattle.std.proofs.Common.{rules, arith, FitsSigned}
use Rattle.std.specs.Int.{w128}
use Rattle.std.proofs.lemmas.Int.{to_z-of_z}
use Rattle.std.proofs.lemmas.Grind.{common_steps}
use Rattle.stn_core.specs.Literal.{value_at}
use Rattle.better_schedules.specs.code.Heights.{IsHeight}
use Rattle.better_schedules.proofs.Gaps.{heights_push}
use Rattle.better_schedules.proofs.above.heights.Goals as goal

pub loop-value-preserved : goal.loop-value-preserved
loop-value-preserved c =
    let low_fits : FitsSigned w128 (value_at c.args.values.now c.args.low) = search rules in
    let value_fits : FitsSigned w128 (value_at c.args.values.now c.loop-value.value-index) = search rules in
    let at : IsHeight (value_at c.args.values.now c.args.low) (value_at c.args.values.now c.loop-value.value-index) c.height.result = simp to_z-of_z at c.height.ensures in
    record {
      count = grind (arith, common_steps, c.in_ok-push.ensures.items);
      each = heights_push (value_at c.args.values.now c.args.low) c.args.values.now c.loop-value.heights.items c.push.new.self.items c.height.result c.loop-value.value-index c.in_ok-push.ensures.items c.loop-value.invariant.count c.loop-value.invariant.each at;
    }
