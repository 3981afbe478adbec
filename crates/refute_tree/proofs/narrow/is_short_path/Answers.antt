use Rattle.std.proofs.Common.{arith, ◌<◌, length}
use Rattle.std.proofs.lemmas.Bool.Decides.{nat_tests}
use Rattle.refute_tree.proofs.PathParts.{leads_more, narrow_more, short_path}
use Rattle.refute_tree.proofs.narrow.is_short_path.Goals as goal

pub loop-literal-preserved : goal.loop-literal-preserved
loop-literal-preserved c =
    let ls = c.args.literals.now in
    let i = c.loop-literal.literal-index in
    record {
      narrow = narrow_more ls i c.loop-literal-test.true c.loop-literal.invariant.narrow (c.is_narrow.ensures c.if-not-is_narrow.false);
      leads = leads_more ls i c.loop-literal.point c.loop-literal-test.true c.if-literal-point.false c.loop-literal.invariant.leads;
    }

pub returns : goal.returns
returns c t =
    let some : 0 < length c.args.literals.now = grind (arith, nat_tests) in
    short_path c.args.literals.now c.loop-literal.literal-index c.loop-literal.point some c.if-literals.false c.loop-literal-test.false c.loop-literal.invariant.narrow c.loop-literal.invariant.leads
