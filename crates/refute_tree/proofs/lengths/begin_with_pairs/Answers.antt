use Rattle.std.proofs.Common.{sym, ◌∙◌}
use Rattle.refute_tree.proofs.Shortened.{none_left}
use Rattle.refute_tree.proofs.lengths.begin_with_pairs.Goals as goal

pub returns-in_default : goal.returns-in_default
returns-in_default c = sym (none_left c.loop-literal.literal-index c.args.literals.now c.loop-literal.reader c.loop-literal-test.true c.in_default.ensures.none_before) ∙ c.loop-literal.invariant
