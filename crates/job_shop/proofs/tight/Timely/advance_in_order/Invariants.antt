use Rattle.job_shop.specs.code.Moving.{IsMoved}
use Rattle.job_shop.proofs.tight.Timely.advance_in_order.Given as goal

abbrev pub invariant-loop-turn : goal.invariant-loop-turn
invariant-loop-turn l = record { moved : IsMoved l.fn.self l.self }
