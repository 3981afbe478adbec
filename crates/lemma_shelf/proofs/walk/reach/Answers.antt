use Rattle.std.proofs.Common.{arith, ◌≡◌, ◌<◌, ◌≤◌, length, sym, ap, ◌∙◌, refl}
use Rattle.std.specs.Prelude.{vec_len}
use Rattle.std.specs.List.{list_all}
use Rattle.std.proofs.lemmas.Option.{slice_get_read}
use Rattle.lemma_shelf.specs.code.Tables.{step_passes, steps_at, with_all_cited}
use Rattle.lemma_shelf.specs.code.Walks.{places}
use Rattle.lemma_shelf.proofs.Resting.{rests_begun, rests_turn}
use Rattle.lemma_shelf.proofs.Walking.{begun, turn, stopped, all_closed, ended, number_in, steps_are}
use Rattle.lemma_shelf.proofs.walk.reach.Goals as goal

pub walk-init : goal.walk-init
walk-init c =
    let long : vec_len c.args.table.now.lemmas ≡ length c.args.table.now.lemmas.items = omega arith in
    let root : c.args.root < length c.args.table.now.lemmas.items = omega (arith, long, c.requires.root) in
    record {
      walking =
          begun c.args.table.now.book c.args.table.now.lemmas.items c.args.table.now.points.items c.requires.table c.args.present.now.clauses.now (places c.args.present.now) c.requires.present
          c.args.root c.args.reached.now c.add.new.self c.len-at.result c.requires.closed root c.in_ok-add.ensures.ok c.len-at.ensures.len;
      rests = rests_begun c.args.table.now.lemmas.items c.args.root c.args.reached.now c.add.new.self c.in_ok-add.ensures.ok;
    }

pub index-requires : goal.index-requires
index-requires c =
    let long : vec_len c.args.table.now.lemmas ≡ length c.args.table.now.lemmas.items = omega arith in
    let within = number_in c.args.table.now.book c.args.table.now.lemmas.items c.args.present.now.clauses.now (places c.args.present.now) c.args.root c.walk.reached c.walk.at c.at-number.result c.walk.invariant.walking c.at-number.ensures in
    omega (arith, long, within)

pub returns-then-not-branch-clause-active : goal.returns-then-not-branch-clause-active
returns-then-not-branch-clause-active c =
    let steps : c.reader.result ≡ steps_at c.args.table.now.lemmas.items c.at-number.result = steps_are c.args.table.now.lemmas.items c.at-number.result c.index.result.now c.reader.result
    (slice_get_read c.args.table.now.lemmas.items (length c.args.table.now.lemmas.items) c.at-number.result c.index.result.now refl
    (number_in c.args.table.now.book c.args.table.now.lemmas.items c.args.present.now.clauses.now (places c.args.present.now) c.args.root c.walk.reached c.walk.at c.at-number.result c.walk.invariant.walking c.at-number.ensures) c.index.ensures)
    c.reader.ensures in
    stopped c.args.table.now.book c.args.table.now.lemmas.items c.args.table.now.points.items c.requires.table c.args.present.now.clauses.now (places c.args.present.now) c.requires.present
    c.args.root c.walk.reached c.walk.at c.at-number.result c.walk.invariant.walking c.at-number.ensures
    (ap (list_all (step_passes (places c.args.present.now))) (sym steps) ∙ sym c.in_ok-visit.ensures.passes ∙ c.if-not-branch.true)

pub walk-smaller : goal.walk-smaller
walk-smaller c =
    let few : c.len.result ≤ length c.args.table.now.lemmas.items = c.len.ensures.few (length c.args.table.now.lemmas.items) c.walk.invariant.walking.within in
    let below : c.walk.at < c.len.result = omega (arith, c.walk-test.true) in
    omega (arith, few, below)

pub walk-preserved : goal.walk-preserved
walk-preserved c =
    let steps : c.reader.result ≡ steps_at c.args.table.now.lemmas.items c.at-number.result = steps_are c.args.table.now.lemmas.items c.at-number.result c.index.result.now c.reader.result
    (slice_get_read c.args.table.now.lemmas.items (length c.args.table.now.lemmas.items) c.at-number.result c.index.result.now refl
    (number_in c.args.table.now.book c.args.table.now.lemmas.items c.args.present.now.clauses.now (places c.args.present.now) c.args.root c.walk.reached c.walk.at c.at-number.result c.walk.invariant.walking c.at-number.ensures) c.index.ensures)
    c.reader.ensures in
    let passes = ap (list_all (step_passes (places c.args.present.now))) (sym steps) ∙ sym c.in_ok-visit.ensures.passes ∙ c.if-not-branch.false in
    let reached = c.in_ok-visit.ensures.reached c.if-not-branch.false ∙ ap (with_all_cited c.walk.reached) steps in
    record {
      walking =
          turn c.args.table.now.book c.args.table.now.lemmas.items c.args.table.now.points.items c.requires.table c.args.present.now.clauses.now (places c.args.present.now) c.requires.present
          c.args.root c.walk.reached c.walk.at c.at-number.result c.walk.invariant.walking c.at-number.ensures c.visit.new.reached passes reached;
      rests = λ all. rests_turn c.args.table.now.lemmas.items c.args.root c.walk.reached c.visit.new.reached c.walk.at c.at-number.result c.at-number.ensures reached (c.walk.invariant.rests all);
    }

pub returns-clause-active : goal.returns-clause-active
returns-clause-active c =
    ended c.args.table.now.book c.args.table.now.lemmas.items c.args.table.now.points.items c.requires.table c.args.present.now.clauses.now (places c.args.present.now) c.requires.present
    c.args.root c.walk.reached c.walk.at c.walk.invariant.walking (omega (arith, c.len.ensures.len, c.walk-test.false))

pub returns-clause-closed : goal.returns-clause-closed
returns-clause-closed c = λ _.
    all_closed c.args.table.now.book c.args.table.now.lemmas.items c.args.table.now.points.items c.requires.table c.args.present.now.clauses.now (places c.args.present.now) c.requires.present
    c.args.root c.walk.reached c.walk.at c.walk.invariant.walking (omega (arith, c.len.ensures.len, c.walk-test.false))

pub returns-clause-there : goal.returns-clause-there
returns-clause-there c = λ _. c.walk.invariant.walking.there

pub returns-clause-rests : goal.returns-clause-rests
returns-clause-rests c = λ _ all. c.walk.invariant.rests all
