use Rattle.std.proofs.Common.{rules, arith, FitsSigned}
use Rattle.std.specs.Int.{w128}
use Rattle.std.proofs.lemmas.Int.{to_z-of_z}
use Rattle.std.proofs.lemmas.List.{get_or_default}
use Rattle.std.proofs.lemmas.List.Edits.{map_over_more}
use Rattle.stn_core.specs.code.Rounds.{begun, label_at, value_of}
use Rattle.stn_core.proofs.label.begin_round.Goals as goal

pub loop-label-preserved : goal.loop-label-preserved
loop-label-preserved c =
    let fits : FitsSigned w128 (value_of c.loop-label.labels c.loop-label.label-index) = search rules in
    rw (to_z-of_z w128 (value_of c.loop-label.labels c.loop-label.label-index) fits)
    (map_over_more begun c.args.labels.now c.loop-label.labels c.loop-label.label-index (label_at c.loop-label.labels c.loop-label.label-index) (omega arith) c.loop-label.invariant (get_or_default c.loop-label.labels c.loop-label.label-index _ _ (omega arith)))
