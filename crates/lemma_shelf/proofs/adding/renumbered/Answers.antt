use Rattle.std.proofs.Common.{length}
use Rattle.std.proofs.lemmas.List.Elements.{All-rest}
use Rattle.refute_tree.specs.code.Views.{step_seen}
use Rattle.lemma_shelf.specs.code.Tables.{IsKnownStep}
use Rattle.lemma_shelf.proofs.Steps.{begins_further, next_done}
use Rattle.lemma_shelf.proofs.adding.renumbered.Goals as goal

pub steps-preserved : goal.steps-preserved
steps-preserved c = record {
  known = All-rest (IsKnownStep (length c.args.problem.now.clauses) (length c.args.numbers.now)) (step_seen c.in-Some.step) c.next.new.self c.steps.reader c.in-Some.ensures c.steps.invariant.known;
  longer = begins_further c.args.book.now c.steps.book c.push_held.new.book c.steps.invariant.longer c.in_ok-push_held.ensures.longer;
  done = next_done c.args.trees c.args.problem.now.clauses c.args.numbers.now c.steps.book c.push_held.new.book c.in_ok-push_held.ensures.longer
      c.args.reader c.steps.reader c.next.new.self (step_seen c.in-Some.step) c.steps.steps c.push_held.new.steps c.in-Some.ensures c.steps.invariant.done c.in_ok-push_held.ensures.ok;
}
