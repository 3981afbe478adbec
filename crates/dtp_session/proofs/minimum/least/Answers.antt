use Rattle.std.proofs.Common.{arith, sym, subst, ℕ, List, All, ℤ}
use Rattle.std.proofs.lemmas.Int.{ints}
use Rattle.best_values.specs.Questions.{Asks}
use Rattle.kept_lemmas.specs.Facts.{Shelf}
use Rattle.refute_tree.specs.declared.lemma.Lemma.{Lemma}
use Rattle.refute_tree.specs.Batches.{LemmaIsOver}
use Rattle.dtp_session.specs.code.Forms.{version_wanted}
use Rattle.dtp_session.specs.code.Keeping.{IsEntered}
use Rattle.dtp_session.proofs.Deciding.{least_shown, less_refuted}
use Rattle.dtp_session.proofs.minimum.least.Goals as goal

pub learn-requires-clause-over : goal.learn-requires-clause-over
learn-requires-clause-over c =
    subst (λ (ls : List Lemma). All (LemmaIsOver c.in_ok-asked.asked.points) ls) (sym c.as_slice.ensures)
    (subst (λ (n : ℕ). All (LemmaIsOver n) c.args.refutation) (sym c.in_ok-asked.ensures.points) c.requires.over)

pub with_lemmas-requires : goal.with_lemmas-requires
with_lemmas-requires c =
    let low = c.requires.within.low in
    let high = c.requires.within.high in
    less_refuted c.args.problem.now c.in_ok-asked.asked c.args.objective c.args.difference _ c.args.refutation c.in_ok-lemmas.lemmas c.in_ok-asked.ensures (omega (arith, ints, low, high, c.from.ensures)) c.in_ok-lemmas.ensures c.requires.refutes

pub returns : goal.returns
returns c =
    let low = c.requires.within.low in
    let high = c.requires.within.high in
    record {
      least = least_shown (version_wanted c.args.wanted) c.args.problem.now c.in_ok-asked.asked c.args.objective c.args.schedule c.args.difference _ _ c.args.refutation c.in_ok-lemmas.lemmas c.in_ok-shown.shown.found
          c.in_ok-asked.ensures (omega (arith, ints, low, high, c.from.ensures)) c.in_ok-lemmas.ensures c.in_ok-shown.ensures.found (omega (arith, ints, low, high, c.from-2.ensures, c.from-3.ensures));
      question = c.in_ok-asked.asked;
      asks = subst (λ (d : ℤ). Asks c.args.problem.now c.args.objective.x c.args.objective.y d c.in_ok-asked.asked) (omega (arith, ints, low, high, c.from.ensures)) c.in_ok-asked.ensures;
      entered = subst (λ (k : Shelf). IsEntered (version_wanted c.args.wanted) k c.in_ok-asked.asked.points c.in_ok-asked.asked.clauses c.in_ok-shown.shown.found c.in_ok-shown.shown.items c.with_lemmas.new.earlier) c.learn.ensures c.in_ok-shown.ensures.entered;
    }
