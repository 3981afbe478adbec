use Rattle.std.proofs.Common.{sym, ap, ◌∙◌, Contains}
use Rattle.refute_tree.specs.code.Views.{step_seen}
use Rattle.lemma_shelf.specs.code.Walks.{places}
use Rattle.lemma_shelf.specs.code.WrittenOut.{stays_cycle, stays_either}
use Rattle.lemma_shelf.proofs.Pushing.{number_ok, number_at, lemma_is_before, adds_input, adds_clash, adds_lemma, adds_itself}
use Rattle.lemma_shelf.proofs.lowering.push_step.Goals as goal

pub unwrap-j-requires : goal.unwrap-j-requires
unwrap-j-requires c =
    let in_ : Contains c.args.before.now c.in-Lemma.number = lemma_is_before (places c.args.present.now) c.args.before.now (step_seen c.args.step) c.in-Lemma.number c.requires.closed (ap step_seen c.in-Lemma.is) in
    number_ok c.args.before.now c.in-Lemma.number c.binary_search.result c.requires.rises in_ c.binary_search.ensures.position

pub returns-in-Input : goal.returns-in-Input
returns-in-Input c =
    adds_input (places c.args.present.now) c.args.before.now (step_seen c.args.step) c.args.steps.now c.push_input.new.self
    c.push_input.result c.in-Input.number c.unwrap-i.result (ap step_seen c.in-Input.is) (sym c.place.ensures ∙ c.unwrap-i.ensures) c.push_input.ensures.ok

pub returns-in-Clash : goal.returns-in-Clash
returns-in-Clash c =
    adds_clash (places c.args.present.now) c.args.before.now (step_seen c.args.step) c.args.steps.now c.push_clash.new.self
    c.push_clash.result c.in-Clash.number c.unwrap-i-in-Clash.result (ap step_seen c.in-Clash.is) (sym c.place-in-Clash.ensures ∙ c.unwrap-i-in-Clash.ensures) c.push_clash.ensures.ok

pub returns-in-Lemma : goal.returns-in-Lemma
returns-in-Lemma c =
    let in_ : Contains c.args.before.now c.in-Lemma.number = lemma_is_before (places c.args.present.now) c.args.before.now (step_seen c.args.step) c.in-Lemma.number c.requires.closed (ap step_seen c.in-Lemma.is) in
    let at = number_at c.args.before.now c.in-Lemma.number c.binary_search.result c.unwrap-j.result c.requires.rises in_ c.binary_search.ensures.position c.unwrap-j.ensures in
    adds_lemma (places c.args.present.now) c.args.before.now (step_seen c.args.step) c.args.steps.now c.push_lemma.new.self
    c.push_lemma.result c.in-Lemma.number c.unwrap-j.result (ap step_seen c.in-Lemma.is) at c.push_lemma.ensures.ok

pub returns-in-Cycle : goal.returns-in-Cycle
returns-in-Cycle c =
    adds_itself (places c.args.present.now) c.args.before.now (step_seen c.args.step) c.args.steps.now c.push.new.self
    c.push.result (rw c.in-Cycle.is stays_cycle) c.push.ensures.ok

pub returns-in-Pair : goal.returns-in-Pair
returns-in-Pair c =
    adds_itself (places c.args.present.now) c.args.before.now (step_seen c.args.step) c.args.steps.now c.push-in-Pair.new.self
    c.push-in-Pair.result (rw c.in-Pair.is stays_cycle) c.push-in-Pair.ensures.ok

pub returns-in-Either : goal.returns-in-Either
returns-in-Either c =
    adds_itself (places c.args.present.now) c.args.before.now (step_seen c.args.step) c.args.steps.now c.push-in-Either.new.self
    c.push-in-Either.result (rw c.in-Either.is stays_either) c.push-in-Either.ensures.ok
