use Rattle.std.proofs.Common.{refl, arith, ◌<◌, ◌^◌}
use Rattle.better_schedules.proofs.Sets.{part_none, part_skipped, part_taken, part_done}
use Rattle.better_schedules.proofs.set.set_up_to.Goals.{then-height-limit+in_ok-push, else-height-limit}
use Rattle.better_schedules.proofs.set.set_up_to.Goals as goal

pub loop-place-init : goal.loop-place-init
loop-place-init c = record { part = part_none c.args.heights.now c.args.limit c.new-set.result.items c.new-set.ensures.items }

pub loop-place-preserved : goal.loop-place-preserved
loop-place-preserved c =
    elim c.if-height-limit.branch [
      | then-height-limit+in_ok-push w ↦
          let few : c.loop-place.place < 2 ^ 32 = omega (arith, c.requires.few, c.loop-place-test.true) in
          rw w.set-is (record { part = part_taken c.args.heights.now c.args.limit c.loop-place.place _ c.loop-place.set.items w.push.new.self.items c.loop-place.invariant.part w.if-height-limit.true w.in_ok-push.ensures.items (omega (arith, few)) })
      | else-height-limit w ↦ rw w.set-is (record { part = part_skipped c.args.heights.now c.args.limit c.loop-place.place c.loop-place.set.items c.loop-place.set.items c.loop-place.invariant.part w.if-height-limit.false refl })
    ]

pub returns-clause-set : goal.returns-clause-set
returns-clause-set c = part_done c.args.heights.now c.args.limit c.loop-place.place c.loop-place.set.items c.loop-place.invariant.part (omega (arith, c.loop-place-test.false, c.loop-place.auto.place-end))

pub returns-clause-ascending : goal.returns-clause-ascending
returns-clause-ascending c = c.loop-place.invariant.part.ascending
