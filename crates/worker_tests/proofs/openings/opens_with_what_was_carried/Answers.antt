use Rattle.std.proofs.Common.{subst, sym, All}
use Rattle.refute_tree.specs.Batches.{LemmaIsOver}
use Rattle.book_core.specs.Shared.{lemmas_of}
use Rattle.worker_tests.proofs.openings.opens_with_what_was_carried.Goals as goal

pub solve_one_with-requires-2-clause-opening : goal.solve_one_with-requires-2-clause-opening
solve_one_with-requires-2-clause-opening g c = record {
  refuted = c.in_ok-opening.ensures.refuted;
  over = c.in_ok-opening.ensures.over (subst (λ ls. All (LemmaIsOver c.in_ok-old.old.points) (lemmas_of ls)) (sym c.as_slice.ensures.value) (subst (λ v. All (LemmaIsOver c.in_ok-old.old.points) (lemmas_of v.items)) (sym c.into_parts-verdict.ensures.lemmas) c.in_ok-found.ensures.lemmas.over));
}

pub solve_shared_with-requires-clause-opening : goal.solve_shared_with-requires-clause-opening
solve_shared_with-requires-clause-opening g c κs = record {
  refuted = c.in_ok-opening-2.ensures.refuted;
  over = c.in_ok-opening-2.ensures.over (subst (λ ls. All (LemmaIsOver c.in_ok-old.old.points) (lemmas_of ls)) (sym c.as_slice-2.ensures.value) (subst (λ v. All (LemmaIsOver c.in_ok-old.old.points) (lemmas_of v.items)) (sym c.into_parts-verdict.ensures.lemmas) c.in_ok-found.ensures.lemmas.over));
}
