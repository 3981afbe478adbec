use Rattle.std.proofs.Common.{arith, ◌+◌, pos, get_or}
use Rattle.std.proofs.lemmas.Int.{ints}
use Rattle.std.proofs.lemmas.List.Elements.{All-push}
use Rattle.stn_core.specs.Named.{IsWithinLimit}
use Rattle.stn_core.specs.Schedule.{IsInRange}
use Rattle.clause_form.proofs.Schedules.{restrict_turn}
use Rattle.clause_form.proofs.schedule.restrict.Goals as goal

pub loop-k-preserved : goal.loop-k-preserved
loop-k-preserved c =
    let value : IsInRange (get_or c.args.values.now (c.loop-k.k + 1) (pos 0)) = c.requires.range (c.loop-k.k + 1) (pos 0) (omega arith) in
    let zero_value : IsInRange (get_or c.args.values.now 0 (pos 0)) = c.requires.range 0 (pos 0) (omega arith) in
    record {
      so_far = restrict_turn c.args.values.now c.args.sorts.now c.loop-k.k _ _ _ c.named_value.result _ c.requires.some c.loop-k-test.true c.named_value.ensures.value (omega (arith, ints)) c.in_ok-push.ensures.items c.loop-k.invariant.so_far;
      within = rw c.in_ok-push.ensures.items (All-push IsWithinLimit c.loop-k.named.items c.named_value.result c.loop-k.invariant.within c.named_value.ensures.within);
    }
