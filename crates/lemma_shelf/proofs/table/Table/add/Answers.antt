use Rattle.std.proofs.Common.{arith, ◌<◌, ℕ, All, List, length, map, refl, ap, subst}
use Rattle.std.proofs.lemmas.List.Elements.{All-weaker}
use Rattle.stn_core.specs.Literal.{negation_of}
use Rattle.refute_tree.specs.declared.step.Step.{Step}
use Rattle.lemma_shelf.specs.code.Tables.{AreRenumbered, steps_held}
use Rattle.lemma_shelf.specs.code.Walks.{facts_in}
use Rattle.lemma_shelf.proofs.MoreLemmas.{all_renumbered_known, all_cite}
use Rattle.lemma_shelf.proofs.Steps.{steps_known, begins_itself, pushed, pushed_trees}
use Rattle.lemma_shelf.proofs.table.Table.add.Goals as goal

pub renumbered-requires : goal.renumbered-requires
renumbered-requires c =
    steps_known c.args.problem.now.clauses (facts_in c.args.self.now) c.args.numbers.now (map negation_of c.args.lemma.now.clause) c.args.lemma.now.steps c.reader.result c.requires.refuted.tree c.reader.ensures

pub returns-in_err-clause-clause-front : goal.returns-in_err-clause-clause-front
returns-in_err-clause-clause-front c = record { book = c.in_ok-steps.ensures.longer; lemmas = begins_itself c.args.self.now.lemmas.items; points = begins_itself c.args.self.now.points.items }

pub push-requires : goal.push-requires
push-requires c =
    let count : ℕ = length c.args.self.now.points.items in
    let within : All (λ (n : ℕ). n < count) c.args.numbers.now = All-weaker (λ (n : ℕ). n < length c.args.self.now.lemmas.items) (λ (n : ℕ). n < count) (λ n lt. omega (arith, lt, c.requires.whole.one_each)) c.args.numbers.now c.requires.numbers in
    all_cite (length c.renumbered.new.book) count c.in_ok-steps.steps
    (all_renumbered_known c.args.problem.now.clauses c.args.numbers.now c.renumbered.new.book count within (steps_held c.args.trees c.reader.result) c.in_ok-steps.steps c.in_ok-steps.ensures.ok)

pub returns-clause-ok : goal.returns-clause-ok
returns-clause-ok c =
    let same : AreRenumbered c.args.problem.now.clauses c.args.numbers.now c.renumbered.new.book (steps_held c.args.trees c.args.lemma.now.steps) c.in_ok-steps.steps =
    subst (λ (ss : List Step). AreRenumbered c.args.problem.now.clauses c.args.numbers.now c.renumbered.new.book (steps_held c.args.trees ss) c.in_ok-steps.steps) c.reader.ensures c.in_ok-steps.ensures.ok in
    pushed c.args.self.now c.push.new.self c.renumbered.new.book c.in_ok-steps.ensures.longer c.requires.whole c.args.problem.now.clauses c.args.numbers.now c.requires.numbers
    c.args.problem.now.points c.args.lemma.now c.requires.refuted c.args.trees c.in_ok-steps.steps same
    c.push.result _ (record { clause = c.in_ok-clause.clause; steps = c.in_ok-steps.steps }) refl refl refl
    (ap (λ x. record { clause = x; steps = c.in_ok-steps.steps }) c.in_ok-clause.ensures) c.push.ensures.ok

pub returns-clause-trees : goal.returns-clause-trees
returns-clause-trees c =
    let same : AreRenumbered c.args.problem.now.clauses c.args.numbers.now c.renumbered.new.book (steps_held c.args.trees c.args.lemma.now.steps) c.in_ok-steps.steps =
    subst (λ (ss : List Step). AreRenumbered c.args.problem.now.clauses c.args.numbers.now c.renumbered.new.book (steps_held c.args.trees ss) c.in_ok-steps.steps) c.reader.ensures c.in_ok-steps.ensures.ok in
    pushed_trees c.args.self.now c.push.new.self c.renumbered.new.book c.in_ok-steps.ensures.longer c.requires.whole c.args.problem.now.clauses c.args.numbers.now c.requires.numbers
    c.args.problem.now.points c.args.lemma.now c.requires.refuted c.args.trees c.in_ok-steps.steps same
    c.push.result _ (record { clause = c.in_ok-clause.clause; steps = c.in_ok-steps.steps }) refl refl refl
    (ap (λ x. record { clause = x; steps = c.in_ok-steps.steps }) c.in_ok-clause.ensures) c.push.ensures.ok
