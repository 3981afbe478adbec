use Rattle.std.proofs.lemmas.List.Elements.{All-rest}
use Rattle.refute_tree.specs.code.Views.{step_seen}
use Rattle.reduced_problem.specs.code.Restating.{Fits}
use Rattle.reduced_problem.proofs.Steps.{step_more}
use Rattle.reduced_problem.proofs.restating.restated.Goals as goal

pub steps-preserved : goal.steps-preserved
steps-preserved c = record {
  few = All-rest (Fits c.args.base) (step_seen c.in-Some.step) c.next.new.self c.steps.reader c.in-Some.ensures c.steps.invariant.few;
  made = step_more c.args.origins.now c.args.clauses.now c.args.base c.args.reader c.steps.reader c.next.new.self (step_seen c.in-Some.step) c.steps.steps c.push_step.new.steps
      c.in-Some.ensures c.steps.invariant.made c.in_ok-push_step.ensures;
}
