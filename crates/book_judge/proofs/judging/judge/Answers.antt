use Rattle.std.proofs.Common.{arith, rules, ◌∙◌, ap, ◌≤◌, length}
use Rattle.std.specs.Arc.{arc_value}
use Rattle.std.proofs.lemmas.List.{length-map}
use Rattle.refute_tree.specs.declared.lemma.Lemma.{Lemma as Stated}
use Rattle.book_core.specs.Shared.{lemmas_of}
use Rattle.book_judge.proofs.Judged.{judged, batch_fault, outcome_fault}
use Rattle.book_judge.proofs.judging.judge.Goals as goal

pub returns-clause-justified : goal.returns-clause-justified
returns-clause-justified c =
    let within : c.seen.result ≤ length (lemmas_of c.args.lemmas.now) = omega (arith, c.if-seen-lemmas.false, length-map c.args.lemmas.now (λ a. arc_value {X = Stated} a)) in
    let again : c.seen-2.result ≤ length (lemmas_of c.args.lemmas.now) = omega (arith, c.seen.ensures, c.seen-2.ensures, within) in
    judged c.args.problem.now (lemmas_of c.args.lemmas.now) c.args.cube.now c.args.batch.now c.args.outcome.now c.seen-2.result c.lemmas.result.now (lemmas_of c.in_ok-known.known.items) (lemmas_of c.as_slice.result.now)
    c.seen-2.ensures c.lemmas.ensures again c.in_ok-known.ensures (ap lemmas_of c.as_slice.ensures.value ∙ c.in_ok-add_lemmas.ensures.known) c.in_ok-add_lemmas.ensures.over c.in_ok-add_lemmas.ensures.refuted c.in_ok-check_outcome.ensures.fits

pub returns-in_err-add_lemmas-clause-fault : goal.returns-in_err-add_lemmas-clause-fault
returns-in_err-add_lemmas-clause-fault c =
    search (
      rules,
      batch_fault c.args.problem.now (lemmas_of c.args.lemmas.now) c.args.cube.now c.args.batch.now c.args.outcome.now c.seen-2.result c.lemmas.result.now (lemmas_of c.in_ok-known.known.items) _
          c.seen-2.ensures c.lemmas.ensures c.in_ok-known.ensures c.in_err-add_lemmas.ensures.fault,
    )

pub returns-in_err-check_outcome-clause-fault : goal.returns-in_err-check_outcome-clause-fault
returns-in_err-check_outcome-clause-fault c =
    search (
      rules,
      outcome_fault c.args.problem.now (lemmas_of c.args.lemmas.now) c.args.cube.now c.args.batch.now c.args.outcome.now c.seen-2.result c.lemmas.result.now (lemmas_of c.in_ok-known.known.items) (lemmas_of c.as_slice.result.now) _
          c.seen-2.ensures c.lemmas.ensures c.in_ok-known.ensures (ap lemmas_of c.as_slice.ensures.value ∙ c.in_ok-add_lemmas.ensures.known) c.in_err-check_outcome.ensures.fault,
    )
