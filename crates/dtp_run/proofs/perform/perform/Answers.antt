use Rattle.std.proofs.Common.{◌∙◌, ap, Some}
use Rattle.command_line.specs.declared.line.Line.TheVariants.{Bench, Certify, Jobshop}
use Rattle.command_line.specs.Lines.{line_of}
use Rattle.dtp_run.specs.Outcomes.{emit_of, texts, version_of}
use Rattle.dtp_run.proofs.Lines.{outcome_of, certified_as, emitted_as, without_memory}
use Rattle.dtp_run.proofs.perform.perform.Goals as goal

pub returns-in-Ok-Bench-clause-outcome : goal.returns-in-Ok-Bench-clause-outcome
returns-in-Ok-Bench-clause-outcome g c =
    outcome_of (line_of (texts c.args.words.now)) (Bench c.in-Ok-Bench.shop c.in-Ok-Bench.workers) _ _ c.bench.result (c.in-Ok-Bench.ensures.line ∙ ap Some c.in-Ok-Bench.field-0-is)
    (c.bench.ensures.benched (g.S.Source.left c.args.source.now) (g.S.Source.faults c.args.source.now))

pub returns-in-Err-OutOfMemory-clause-outcome : goal.returns-in-Err-OutOfMemory-clause-outcome
returns-in-Err-OutOfMemory-clause-outcome g c = without_memory (line_of (texts c.args.words.now)) _ _ _ _

pub returns-in-Ok-Certify-clause-outcome : goal.returns-in-Ok-Certify-clause-outcome
returns-in-Ok-Certify-clause-outcome g c =
    outcome_of (line_of (texts c.args.words.now)) (Certify c.in-Ok-Certify.search c.in-Ok-Certify.format) _ _ c.work_on-in-Ok-Certify.result (c.in-Ok-Certify.ensures.line ∙ ap Some c.in-Ok-Certify.field-0-is)
    (certified_as c.version_of.result (version_of c.in-Ok-Certify.format) _ _ c.work_on-in-Ok-Certify.result c.version_of.ensures c.work_on-in-Ok-Certify.ensures.worked)

pub returns-in-Ok-Jobshop-clause-outcome : goal.returns-in-Ok-Jobshop-clause-outcome
returns-in-Ok-Jobshop-clause-outcome g c =
    outcome_of (line_of (texts c.args.words.now)) (Jobshop c.in-Ok-Jobshop.search c.in-Ok-Jobshop.emit) _ _ c.work_on-in-Ok-Jobshop.result (c.in-Ok-Jobshop.ensures.line ∙ ap Some c.in-Ok-Jobshop.field-0-is)
    (emitted_as c.emit_of.result (emit_of c.in-Ok-Jobshop.emit) _ _ c.work_on-in-Ok-Jobshop.result c.emit_of.ensures c.work_on-in-Ok-Jobshop.ensures.worked)
