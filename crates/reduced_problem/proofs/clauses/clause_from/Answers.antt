use Rattle.std.proofs.Common.{All, length, ltb-true, refl, sym, subst}
use Rattle.std.proofs.lemmas.Option.{slice_get_read}
use Rattle.stn_core.specs.Literal.{IsOver}
use Rattle.refute_tree.specs.Batches.{LemmaIsOver}
use Rattle.reduced_problem.proofs.Steps.{at_place}
use Rattle.reduced_problem.proofs.clauses.clause_from.Goals as goal

pub returns-in_ok-lemma-in-Lemma-clause-over : goal.returns-in_ok-lemma-in-Lemma-clause-over
returns-in_ok-lemma-in-Lemma-clause-over c =
    let one = at_place (LemmaIsOver c.args.problem.now.points) c.args.lemmas.now c.in-Lemma.j c.in_ok-lemma-in-Lemma.lemma.now c.requires.over
    (slice_get_read c.args.lemmas.now (length c.args.lemmas.now) c.in-Lemma.j c.in_ok-lemma-in-Lemma.lemma.now refl (ltb-true _ _ (sym c.in_ok-lemma-in-Lemma.ensures.lookup.0)) c.in_ok-lemma-in-Lemma.ensures.lookup.1) in
    subst (All (IsOver c.args.problem.now.points)) (sym c.as_slice-in-Lemma.ensures) one.clause
