use Rattle.std.proofs.Common.{length}
use Rattle.std.proofs.lemmas.List.Elements.{All-rest}
use Rattle.refute_tree.specs.code.Views.{step_seen}
use Rattle.refute_tree.specs.Batches.{RefersBelow}
use Rattle.carried_lemmas.specs.code.Carrying.{step_by}
use Rattle.carried_lemmas.proofs.Placed.{made_step}
use Rattle.carried_lemmas.proofs.carrying.renumbered.Goals as goal

pub steps-preserved : goal.steps-preserved
steps-preserved c = record {
  below = All-rest (RefersBelow (length c.args.places.now)) (step_seen c.in-Some.step) c.next.new.self c.steps.reader c.in-Some.ensures c.steps.invariant.below;
  made = made_step (step_by c.args.numbers.now c.args.places.now) c.args.reader c.steps.reader c.next.new.self (step_seen c.in-Some.step) c.steps.steps c.push_step.new.steps
      c.in-Some.ensures c.steps.invariant.made c.in_ok-push_step.ensures;
}
