use Rattle.std.proofs.Common.{rules, arith, ◌<◌, length}
use Rattle.cert_read.proofs.EachItem.{each_means, each_goes_on, each_lacks, each_ends}
use Rattle.cert_read.proofs.part.read_each.Goals as goal

pub read-requires : goal.read-requires
read-requires g c = each_means (g.T.Part.meant c.args.version) c.args.table.now c.args.ids.now c.loop-id.id-index c.loop-id.parts.items (omega arith) c.requires c.loop-id.invariant

pub returns-in_err-read-clause-err : goal.returns-in_err-read-clause-err
returns-in_err-read-clause-err g c =
    let within : c.loop-id.id-index < length c.args.ids.now = omega arith in
    search (rules, each_lacks (g.T.Part.meant c.args.version) c.args.table.now c.args.ids.now c.loop-id.id-index c.loop-id.parts.items _ within c.in_err-read.ensures.err c.loop-id.invariant)

pub loop-id-preserved : goal.loop-id-preserved
loop-id-preserved g c =
    rw c.in_ok-push.ensures.items (each_goes_on (g.T.Part.meant c.args.version) c.args.table.now c.args.ids.now c.loop-id.id-index c.loop-id.parts.items _ (omega arith) c.in_ok-read.ensures.ok c.loop-id.invariant)

pub returns-clause-ok : goal.returns-clause-ok
returns-clause-ok g c = each_ends (g.T.Part.meant c.args.version) c.args.table.now c.args.ids.now c.loop-id.id-index c.loop-id.parts.items (omega arith) c.loop-id.invariant
