use Rattle.std.proofs.Common.{◌≡◌, drop}
use Rattle.refute_tree.specs.Lengths.{begin_with_pairs}
use Rattle.refute_tree.proofs.lengths.begin_with_pairs.Given as goal

abbrev pub invariant-loop-literal : goal.invariant-loop-literal
invariant-loop-literal l = begin_with_pairs (drop l.literal-index l.literals) l.reader ≡ begin_with_pairs l.literals l.initial.reader
