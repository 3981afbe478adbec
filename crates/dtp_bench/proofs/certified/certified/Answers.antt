use Rattle.dtp_gen.specs.Scripts.{script}
use Rattle.cert_text.specs.declared.entry.Version.TheVariants.{One}
use Rattle.dtp_entry.specs.declared.report.Report.TheVariants.{Certificate}
use Rattle.dtp_bench.specs.Benches.{plan_of}
use Rattle.dtp_bench.proofs.FirstLine.{never_stopped}
use Rattle.dtp_bench.proofs.certified.certified.Goals as goal

pub unreachable-requires : goal.unreachable-requires
unreachable-requires g c =
    let w = c.in-Ok-ScriptStopped.ensures.solved.whole in
    never_stopped (script (plan_of c.args.plan)) c.args.text.now w.0 c.in-Ok-ScriptStopped.field-0 c.requires c.in-Ok-ScriptStopped.field-0-is (c.plan_law.ensures.ends (Certificate One)) w.2
