use Rattle.cert_check.proofs.Stacks.{entered_stack, entered_cases}
use Rattle.cert_check.proofs.walk.Walk.enter.Goals as goal

pub returns-clause-stack : goal.returns-clause-stack
returns-clause-stack c = entered_stack _ _ _ _ _ _ c.requires.stack c.len-base.ensures c.requires.place c.literal.ensures c.in_ok-push.ensures.items c.in_ok-assume.ensures.ok

pub returns-clause-cases : goal.returns-clause-cases
returns-clause-cases c = entered_cases _ _ _ _ _ _ c.requires.stack c.len-base.ensures c.requires.place c.literal.ensures c.in_ok-push.ensures.items c.in_ok-assume.ensures.ok
