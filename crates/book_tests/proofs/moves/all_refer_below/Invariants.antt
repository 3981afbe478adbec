use Rattle.std.proofs.Common.{All, take}
use Rattle.refute_tree.specs.Batches.{LemmaRefersBelow}
use Rattle.book_tests.proofs.moves.all_refer_below.Given as goal

abbrev pub invariant-loop-lemma : goal.invariant-loop-lemma
invariant-loop-lemma l = All (LemmaRefersBelow l.limit) (take l.lemma-index l.lemmas)
