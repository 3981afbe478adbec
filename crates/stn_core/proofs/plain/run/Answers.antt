use Rattle.std.proofs.Common.{arith, subst, ◌≤◌, ℕ, length}
use Rattle.stn_core.specs.Limits.{points_limit}
use Rattle.stn_core.specs.code.Rounds.{IsRound}
use Rattle.stn_core.proofs.Ends.{ready_next, none_lowered_next, schedule_answer, cycle_answer}
use Rattle.stn_core.proofs.plain.run.Goals as goal

pub loop-round-preserved : goal.loop-round-preserved
loop-round-preserved c =
    let literals = c.args.literals.now in
    let after : IsRound c.args.points c.args.literals.now c.lower.new.labels c.loop-round.round (length c.args.literals.now) =
    subst (λ (n : ℕ). IsRound n c.args.literals.now c.lower.new.labels c.loop-round.round (length c.args.literals.now)) c.loop-round.invariant.ready.count c.lower.ensures.after in
    rw c.begin_round.ensures (record {
      ready = ready_next c.args.points literals c.lower.new.labels c.loop-round.round c.requires.over after;
      none_lowered = none_lowered_next c.args.points literals c.lower.new.labels c.loop-round.round after;
    })

pub returns-in-None : goal.returns-in-None
returns-in-None c =
    let few : c.args.points ≤ points_limit = c.requires.few in
    schedule_answer c.args.points (length c.loop-round.labels) c.args.literals.now c.lower.new.labels c.loop-round.round c.in_ok-schedule_of-in-None.field-0 c.loop-round.invariant.ready.count (omega arith) c.requires.over c.lower.ensures.after c.in-None.ensures.some c.in_ok-schedule_of-in-None.ensures

pub returns-in_ok-schedule_of-in-None-lower : goal.returns-in_ok-schedule_of-in-None-lower
returns-in_ok-schedule_of-in-None-lower c =
    let few : c.args.points ≤ points_limit = c.requires.few in
    schedule_answer c.args.points (length c.loop-round.labels) c.args.literals.now c.lower-2.new.labels c.args.points c.in_ok-schedule_of-in-None-lower.field-0 c.loop-round.invariant.ready.count few c.requires.over c.lower-2.ensures.after c.in-None-lower.ensures.some c.in_ok-schedule_of-in-None-lower.ensures

pub returns-in-Some-2 : goal.returns-in-Some-2
returns-in-Some-2 c =
    let found = rw c.in-Some-2.is at c.in_ok-cycle-in-Some.ensures.cycle in
    cycle_answer (length c.loop-round.labels) c.args.literals.now c.lower.new.labels c.loop-round.round c.in-Some-2.cycle c.lower.ensures.after found

pub returns-in-Some-3 : goal.returns-in-Some-3
returns-in-Some-3 c =
    let found = rw c.in-Some-3.is at c.in_ok-cycle_from-in-Some-lower.ensures.cycle in
    cycle_answer (length c.loop-round.labels) c.args.literals.now c.lower-2.new.labels c.args.points c.in-Some-3.cycle c.lower-2.ensures.after found
