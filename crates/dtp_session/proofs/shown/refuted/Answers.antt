use Rattle.std.proofs.Common.{List, sym, subst}
use Rattle.std.specs.Prelude.{All}
use Rattle.refute_tree.specs.declared.lemma.Lemma.{Lemma}
use Rattle.refute_tree.specs.Batches.{LemmaIsOver}
use Rattle.refute_tree.specs.Trees.{IsRefutation}
use Rattle.dtp_session.proofs.shown.refuted.Goals as goal

pub learn-requires-clause-refutes : goal.learn-requires-clause-refutes
learn-requires-clause-refutes c =
    let p = c.args.problem in
    subst (λ (lemmas : List Lemma). IsRefutation p.points p.clauses lemmas) (sym c.as_slice.ensures) c.requires.refutes

pub learn-requires-clause-over : goal.learn-requires-clause-over
learn-requires-clause-over c =
    let p = c.args.problem in
    subst (λ (lemmas : List Lemma). All (LemmaIsOver p.points) lemmas) (sym c.as_slice.ensures) c.requires.over

pub with_lemmas-requires : goal.with_lemmas-requires
with_lemmas-requires c = c.in_ok-lemmas.ensures.refutes c.args.problem.points c.args.problem.clauses c.requires.refutes
