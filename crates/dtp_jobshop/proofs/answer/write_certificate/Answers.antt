use Rattle.std.proofs.Common.{◌∙◌}
use Rattle.dtp_jobshop.proofs.Writing.{never_stopped}
use Rattle.dtp_jobshop.proofs.answer.write_certificate.Goals as goal

pub unreachable-requires : goal.unreachable-requires
unreachable-requires g c =
    let w = c.in-Ok-ScriptStopped.ensures.solved.whole in
    never_stopped c.shop_is_answered.ensures c.args.jobs.now c.requires c.deref.result.now w.0 (c.deref.ensures.value ∙ c.in_ok-script.ensures)
    c.in-Ok-ScriptStopped.field-0 c.in-Ok-ScriptStopped.field-0-is w.2
