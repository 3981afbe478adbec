use Rattle.better_schedules.proofs.descent.Descent.begin.Goals as goal

pub returns : goal.returns
returns c = record { opening = c.in_ok-incumbent.ensures; floor = c.floored-lower.ensures }
