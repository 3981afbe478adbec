use Rattle.std.proofs.Common.{All, subst}
use Rattle.std.proofs.lemmas.List.Elements.{All-head, All-rest}
use Rattle.refute_tree.specs.code.Views.{step_seen}
use Rattle.lemma_shelf.specs.code.Tables.{StepIsClosed}
use Rattle.lemma_shelf.specs.code.Walks.{places}
use Rattle.lemma_shelf.proofs.Pushing.{next_done}
use Rattle.lemma_shelf.proofs.lowering.lowered_steps.Goals as goal

pub push_step-requires-clause-closed : goal.push_step-requires-clause-closed
push_step-requires-clause-closed c =
    All-head (StepIsClosed (places c.args.present.now) c.args.before.now) (step_seen c.in-Some.step) c.next.new.self
    (subst (All (StepIsClosed (places c.args.present.now) c.args.before.now)) c.in-Some.ensures c.steps.invariant.closed)

pub steps-preserved : goal.steps-preserved
steps-preserved c = record {
  closed = All-rest (StepIsClosed (places c.args.present.now) c.args.before.now) (step_seen c.in-Some.step) c.next.new.self c.steps.reader c.in-Some.ensures c.steps.invariant.closed;
  done = next_done (places c.args.present.now) c.args.before.now c.args.reader c.steps.reader c.next.new.self (step_seen c.in-Some.step) c.steps.steps c.push_step.new.steps c.in-Some.ensures c.steps.invariant.done c.in_ok-push_step.ensures;
}
