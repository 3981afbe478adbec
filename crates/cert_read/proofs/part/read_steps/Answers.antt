use Rattle.std.proofs.Common.{rules, arith, ◌<◌, length}
use Rattle.cert_read.specs.Parts.{step_of}
use Rattle.cert_read.proofs.EachItem.{each_means, each_goes_on, each_lacks, each_ends}
use Rattle.cert_read.proofs.part.read_steps.Goals as goal

pub read-requires : goal.read-requires
read-requires c = each_means (step_of c.args.version) c.args.table.now c.args.ids.now c.loop-id.id-index c.loop-id.steps (omega arith) c.requires c.loop-id.invariant

pub returns-in_err-read-clause-err : goal.returns-in_err-read-clause-err
returns-in_err-read-clause-err c =
    let within : c.loop-id.id-index < length c.args.ids.now = omega arith in
    search (rules, each_lacks (step_of c.args.version) c.args.table.now c.args.ids.now c.loop-id.id-index c.loop-id.steps _ within c.in_err-read.ensures.err c.loop-id.invariant)

pub loop-id-preserved : goal.loop-id-preserved
loop-id-preserved c =
    rw c.in_ok-push_step.ensures (each_goes_on (step_of c.args.version) c.args.table.now c.args.ids.now c.loop-id.id-index c.loop-id.steps _ (omega arith) c.in_ok-read.ensures.ok c.loop-id.invariant)

pub returns-clause-ok : goal.returns-clause-ok
returns-clause-ok c = each_ends (step_of c.args.version) c.args.table.now c.args.ids.now c.loop-id.id-index c.loop-id.steps (omega arith) c.loop-id.invariant
