use Rattle.std.proofs.Common.{arith, ◌<◌, length}
use Rattle.refute_tree.specs.code.Views.{literals_of}
use Rattle.cert_check.specs.Tests.{is_assumed}
use Rattle.cert_check.proofs.Tested.{all_more, all_not}
use Rattle.cert_check.proofs.cases.are_assumed.Goals as goal

pub returns-then-not-contains : goal.returns-then-not-contains
returns-then-not-contains c =
    let within : c.loop-place.place < length (literals_of c.args.cycle) = omega (arith, c.len-place-end.ensures, c.loop-place-test.true) in
    all_not (is_assumed c.args.assumed.now) (literals_of c.args.cycle) c.loop-place.place c.at.result within c.at.ensures c.contains.result c.contains.ensures c.if-not-contains.true c.loop-place.invariant

pub loop-place-preserved : goal.loop-place-preserved
loop-place-preserved c =
    let within : c.loop-place.place < length (literals_of c.args.cycle) = omega (arith, c.len-place-end.ensures, c.loop-place-test.true) in
    all_more (is_assumed c.args.assumed.now) (literals_of c.args.cycle) c.loop-place.place c.at.result within c.at.ensures c.contains.result c.contains.ensures c.if-not-contains.false c.loop-place.invariant
