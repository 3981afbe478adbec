use Rattle.std.proofs.Common.{rules}
use Rattle.std.specs.Arc.{arc_value}
use Rattle.refute_tree.specs.declared.lemma.Lemma.{Lemma as Stated}
use Rattle.refute_tree.specs.Batches.{LemmaIsOver}
use Rattle.book_judge.proofs.Judged.{all_end, added, faulted}
use Rattle.book_judge.proofs.judging.add_lemmas.Goals as goal

pub loop-lemma-preserved : goal.loop-lemma-preserved
loop-lemma-preserved c = added (λ a. arc_value {X = Stated} a) c.args.problem.now.points c.args.problem.now.clauses c.args.known.now.items c.loop-lemma.known.items c.add_lemma.new.known.items c.args.lemmas.now c.loop-lemma.lemma-index c.lemma-item.result
    c.loop-lemma-test.true c.lemma-item.is c.loop-lemma.invariant.known c.loop-lemma.invariant.over c.loop-lemma.invariant.refuted c.in_ok-add_lemma.ensures.known c.in_ok-add_lemma.ensures.over c.in_ok-add_lemma.ensures.refuted

pub returns-clause-over : goal.returns-clause-over
returns-clause-over c = all_end (LemmaIsOver c.args.problem.now.points) c.args.lemmas.now c.loop-lemma.lemma-index c.loop-lemma-test.false c.loop-lemma.invariant.over

pub returns-in_err-add_lemma-clause-fault : goal.returns-in_err-add_lemma-clause-fault
returns-in_err-add_lemma-clause-fault c =
    search (rules, faulted (λ a. arc_value {X = Stated} a) c.args.problem.now c.args.known.now.items c.loop-lemma.known.items c.args.lemmas.now c.loop-lemma.lemma-index c.lemma-item.result _ c.loop-lemma-test.true c.lemma-item.is c.loop-lemma.invariant.known c.in_err-add_lemma.ensures.fault)
