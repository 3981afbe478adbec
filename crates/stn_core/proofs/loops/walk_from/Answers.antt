use Rattle.std.proofs.Common.{arith, Contains, ◌<◌, ◌-◌, length}
use Rattle.std.proofs.lemmas.List.Elements.{All-push, Contains-get_or}
use Rattle.stn_core.proofs.loops.walk_from.Goals as goal

pub returns-then-point-start : goal.returns-then-point-start
returns-then-point-start c =
    let lt : c.read-number.result - 1 < length c.args.literals.now = omega arith in
    rw c.in_ok-push.ensures.items (All-push (Contains c.args.literals.now) _ _ c.steps.invariant (Contains-get_or c.args.literals.now (c.read-number.result - 1) _ lt))

pub steps-preserved : goal.steps-preserved
steps-preserved c =
    let lt : c.read-number.result - 1 < length c.args.literals.now = omega arith in
    rw c.in_ok-push.ensures.items (All-push (Contains c.args.literals.now) _ _ c.steps.invariant (Contains-get_or c.args.literals.now (c.read-number.result - 1) _ lt))
