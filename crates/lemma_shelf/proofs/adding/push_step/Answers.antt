use Rattle.std.proofs.Common.{ap}
use Rattle.refute_tree.specs.code.Views.{step_seen}
use Rattle.lemma_shelf.specs.code.Tables.{keeps_cycle, keeps_either}
use Rattle.lemma_shelf.proofs.Steps.{adds_input, adds_clash, adds_lemma, adds_itself}
use Rattle.lemma_shelf.proofs.adding.push_step.Goals as goal

pub returns-in_ok-number-in-Input-clause-ok : goal.returns-in_ok-number-in-Input-clause-ok
returns-in_ok-number-in-Input-clause-ok c =
    adds_input c.args.problem.now.clauses c.args.numbers.now c.number_in.new.book (step_seen c.args.step) c.requires c.args.steps.now c.push_input.new.self
    c.push_input.result c.in-Input.i c.in_ok-number-in-Input.number (ap step_seen c.in-Input.is) c.in_ok-number-in-Input.ensures.ok c.push_input.ensures.ok

pub returns-in_ok-number-in-Clash-clause-ok : goal.returns-in_ok-number-in-Clash-clause-ok
returns-in_ok-number-in-Clash-clause-ok c =
    adds_clash c.args.problem.now.clauses c.args.numbers.now c.number_in-in-Clash.new.book (step_seen c.args.step) c.requires c.args.steps.now c.push_clash.new.self
    c.push_clash.result c.in-Clash.i c.in_ok-number-in-Clash.number (ap step_seen c.in-Clash.is) c.in_ok-number-in-Clash.ensures.ok c.push_clash.ensures.ok

pub returns-in-Lemma-clause-ok : goal.returns-in-Lemma-clause-ok
returns-in-Lemma-clause-ok c =
    adds_lemma c.args.problem.now.clauses c.args.numbers.now c.args.book.now (step_seen c.args.step) c.requires c.args.steps.now c.push_lemma.new.self
    c.push_lemma.result c.in-Lemma.j (ap step_seen c.in-Lemma.is) c.push_lemma.ensures.ok

pub returns-in-Cycle-clause-ok : goal.returns-in-Cycle-clause-ok
returns-in-Cycle-clause-ok c =
    adds_itself c.args.problem.now.clauses c.args.numbers.now c.args.book.now (step_seen c.args.step) c.requires c.args.steps.now c.push.new.self
    c.push.result (rw c.in-Cycle.is keeps_cycle) c.push.ensures.ok

pub returns-in-Pair-clause-ok : goal.returns-in-Pair-clause-ok
returns-in-Pair-clause-ok c =
    adds_itself c.args.problem.now.clauses c.args.numbers.now c.args.book.now (step_seen c.args.step) c.requires c.args.steps.now c.push-in-Pair.new.self
    c.push-in-Pair.result (rw c.in-Pair.is keeps_cycle) c.push-in-Pair.ensures.ok

pub returns-in-Either-clause-ok : goal.returns-in-Either-clause-ok
returns-in-Either-clause-ok c =
    adds_itself c.args.problem.now.clauses c.args.numbers.now c.args.book.now (step_seen c.args.step) c.requires c.args.steps.now c.push-in-Either.new.self
    c.push-in-Either.result (rw c.in-Either.is keeps_either) c.push-in-Either.ensures.ok
