use Rattle.std.proofs.Common.{length, ap, ◌∙◌}
use Rattle.std.specs.Prelude.{nat_le, ◌&&◌}
use Rattle.std.proofs.lemmas.List.Elements.{All-rest}
use Rattle.refute_tree.specs.code.Views.{step_seen}
use Rattle.lemma_shelf.specs.code.Tables.{CitesBelow, step_fits}
use Rattle.lemma_shelf.proofs.Fitting.{fits_first}
use Rattle.lemma_shelf.proofs.needs.of_steps.Goals as goal

pub steps-preserved : goal.steps-preserved
steps-preserved c = record {
  known = All-rest (CitesBelow (length c.args.points.now)) (step_seen c.in-Some.step) c.next.new.self c.steps.reader c.in-Some.ensures c.steps.invariant.known;
  fits = λ count.
      fits_first (step_fits c.args.points.now count) (nat_le c.steps.needs count) (nat_le c.larger-needs.result count) (step_seen c.in-Some.step) c.steps.reader c.next.new.self c.in-Some.ensures
      (c.larger-needs.ensures count ∙ ap (λ b. nat_le c.steps.needs count && b) (c.of_step.ensures count))
      ∙ c.steps.invariant.fits count;
}
