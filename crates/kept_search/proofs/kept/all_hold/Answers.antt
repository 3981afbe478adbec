use Rattle.std.proofs.Common.{pos}
use Rattle.std.proofs.lemmas.List.Elements.{All-more}
use Rattle.stn_core.specs.Literal.{Holds}
use Rattle.book_search.proofs.Holding.{all_whole}
use Rattle.kept_search.proofs.kept.all_hold.Goals as goal

pub loop-literal-preserved : goal.loop-literal-preserved
loop-literal-preserved c =
    All-more (Holds c.args.values.now) c.args.cube.now c.loop-literal.literal-index (record { x = 0; y = 0; c = pos 0 }) c.loop-literal-test.true c.loop-literal.invariant (c.holds.ensures.0 c.if-not-holds.false)

pub returns : goal.returns
returns c t = all_whole (Holds c.args.values.now) c.args.cube.now c.loop-literal.literal-index c.loop-literal-test.false c.loop-literal.invariant
