use Rattle.std.proofs.Common.{take}
use Rattle.std.specs.Arc.{arc_value}
use Rattle.refute_tree.specs.declared.lemma.Lemma.{Lemma as Stated}
use Rattle.book_judge.proofs.Judged.{IsAdded}
use Rattle.book_judge.proofs.judging.add_lemmas.Given as goal

abbrev pub invariant-loop-lemma : goal.invariant-loop-lemma
invariant-loop-lemma l = IsAdded (λ a. arc_value {X = Stated} a) l.problem.points l.problem.clauses l.fn.known.items l.known.items (take l.lemma-index l.lemmas)
