use Rattle.dtp_gen.specs.Scripts.{script}
use Rattle.dtp_bench.specs.Benches.{plan_of}
use Rattle.dtp_bench.proofs.FirstLine.{pair_accepted, never_refused}
use Rattle.dtp_bench.proofs.certified.check_again.Goals as goal

pub unreachable-requires : goal.unreachable-requires
unreachable-requires c =
    let w = c.in-Ok-NotAccepted.ensures.whole in
    never_refused c.one_judgement.ensures c.args.pair.now w.0 c.in-Ok-NotAccepted.field-0 (pair_accepted (script (plan_of c.args.plan)) c.args.pair.now c.requires c.plan_law.ensures.accepted) w.2
    c.in-Ok-NotAccepted.field-0-is
