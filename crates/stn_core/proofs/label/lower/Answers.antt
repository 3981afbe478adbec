use Rattle.std.proofs.Common.{rules, arith, ◌≡◌, ◌<◌, ◌≤◌, length, w64, ◌+ℤ◌, ◌≤ℤ◌, ◌<ℤ◌, FitsSigned}
use Rattle.std.specs.Int.{w128}
use Rattle.std.proofs.lemmas.Int.{ints, to_z-of_z}
use Rattle.stn_core.specs.Limits.{points_limit}
use Rattle.stn_core.specs.Literal.{IsOver, literal_at}
use Rattle.stn_core.specs.code.Rounds.{last_of, value_of}
use Rattle.stn_core.proofs.Rounds.{below_from_test, reached_from_test, after, round_after, round_skips, lowered_now}
use Rattle.stn_core.proofs.label.lower.Goals as goal
use Rattle.stn_core.proofs.label.lower.Goals.{then-bound-label, else-bound-label}

pub loop-literal-preserved : goal.loop-literal-preserved
loop-literal-preserved c =
    let i = c.loop-literal.literal-index in
    let literals = c.args.literals.now in
    let labels = c.loop-literal.labels in
    let fb : FitsSigned w128 (last_of labels (literal_at literals i).y +ℤ (literal_at literals i).c) = search rules in
    let fx : FitsSigned w128 (last_of labels (literal_at literals i).x) = search rules in
    let fv : FitsSigned w128 (value_of labels (literal_at literals i).x) = search rules in
    let fy : FitsSigned w128 (last_of labels (literal_at literals i).y) = search rules in
    let fc : FitsSigned w64 (literal_at literals i).c = search rules in
    let fw : FitsSigned w128 (literal_at literals i).c = search rules in
    let from_is : c.from.result ≡ (literal_at literals i).c = simp to_z-of_z at c.from.ensures in
    let first : 1 ≤ c.args.round = c.requires.first in
    let i_in : c.loop-literal.literal-index < length c.args.literals.now = omega arith in
    let over : IsOver (length c.args.labels.now) (literal_at literals i) = c.requires.over i _ i_in in
    elim c.if-bound-label.branch [
      | then-bound-label w ↦
          let e : c.if-bound-label.labels ≡ after labels (literal_at literals i) c.args.round = simp (to_z-of_z, from_is) at w.labels-is in
          let t = simp (to_z-of_z, from_is) at w.if-bound-label.true in
          let below : (last_of labels (literal_at literals i).y +ℤ (literal_at literals i).c) <ℤ value_of labels (literal_at literals i).x = below_from_test _ _ t in
          rw (e, w.lowered-is) (record {
            kept = round_after (length c.args.labels.now) literals labels c.args.round i first c.requires.over i_in c.loop-literal.invariant.kept below;
            some = lowered_now (length c.args.labels.now) labels (literal_at literals i) c.args.round c.loop-literal.invariant.kept.count over.x_in;
          })
      | else-bound-label w ↦
          let t = simp (to_z-of_z, from_is) at w.if-bound-label.false in
          let done : value_of labels (literal_at literals i).x ≤ℤ (last_of labels (literal_at literals i).y +ℤ (literal_at literals i).c) = reached_from_test _ _ t in
          rw (w.labels-is, w.lowered-is) (record {
            kept = round_skips (length c.args.labels.now) literals labels c.args.round i i_in c.loop-literal.invariant.kept done;
            some = c.loop-literal.invariant.some;
          })
    ]

pub overflow_add-bound : goal.overflow_add-bound
overflow_add-bound c =
    let i = c.loop-literal.literal-index in
    let literals = c.args.literals.now in
    let labels = c.loop-literal.labels in
    let i_in : c.loop-literal.literal-index < length c.args.literals.now = omega arith in
    let over : IsOver (length c.args.labels.now) (literal_at literals i) = c.requires.over i _ i_in in
    let traced = c.loop-literal.invariant.kept.traced (literal_at literals i).y over.y_in in
    let low = over.low in
    let high = over.high in
    let last_low = traced.last_low in
    let last_at_most_0 = traced.last_at_most_0 in
    let few : c.args.round ≤ length c.args.labels.now = c.requires.few in
    let points : length c.args.labels.now ≤ points_limit = c.requires.points in
    let sum_fits : FitsSigned w128 (last_of labels (literal_at literals i).y +ℤ (literal_at literals i).c) = omega (arith, ints) in
    let last_fits : FitsSigned w128 (last_of labels (literal_at literals i).y) = search rules in
    let bound_fits : FitsSigned w64 (literal_at literals i).c = search rules in
    let wide : FitsSigned w128 (literal_at literals i).c = search rules in
    let from_is : c.from.result ≡ (literal_at literals i).c = simp to_z-of_z at c.from.ensures in
    simp (to_z-of_z, from_is) sum_fits

pub bounds-labels-literal-then-bound-label : goal.bounds-labels-literal-then-bound-label
bounds-labels-literal-then-bound-label c =
    let i_in : c.loop-literal.literal-index < length c.args.literals.now = omega arith in
    let over : IsOver (length c.args.labels.now) (literal_at c.args.literals.now c.loop-literal.literal-index) = c.requires.over c.loop-literal.literal-index _ i_in in
    let x_in = over.x_in in
    let count = c.loop-literal.invariant.kept.count in
    omega arith
