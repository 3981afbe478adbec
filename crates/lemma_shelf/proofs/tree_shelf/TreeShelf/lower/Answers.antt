use Rattle.std.proofs.Common.{◌+◌, map, take, sym, ap, subst, ◌∙◌}
use Rattle.refute_tree.specs.Trees.{IsRefutation}
use Rattle.lemma_shelf.specs.Lowering.{StatesLast, AreOfShelf, AreCited}
use Rattle.lemma_shelf.specs.code.WrittenOut.{last_of}
use Rattle.lemma_shelf.proofs.Lowered.{root_there, root_is, refutation, states_last}
use Rattle.lemma_shelf.proofs.Standing.{of_shelf, are_cited}
use Rattle.lemma_shelf.proofs.tree_shelf.TreeShelf.lower.Goals as goal

pub lowered-requires-clause-active : goal.lowered-requires-clause-active
lowered-requires-clause-active c =
    let book = c.self.inside.table.book in
    let lemmas = c.self.inside.table.lemmas.items in
    let entries = map (λ n. n.items) c.self.inside.entries.items in
    let there = root_there book lemmas entries c.self.invariant.1 c.args.self.now c.self.view_is c.args.entry c.args.problem.now.points c.args.problem.now.clauses c.requires in
    let root = root_is book lemmas entries c.args.self.now c.args.entry c.args.problem.now.points c.args.problem.now.clauses c.last_number.result c.unwrap-root.result there
    (c.last_number.ensures ∙ ap (λ es. last_of (map (λ n. n.items) es) c.args.entry) c.as_slice.ensures.value) c.unwrap-root.ensures in
    root.active

pub returns-clause-refutes : goal.returns-clause-refutes
returns-clause-refutes c =
    let book = c.self.inside.table.book in
    let lemmas = c.self.inside.table.lemmas.items in
    let entries = map (λ n. n.items) c.self.inside.entries.items in
    let there = root_there book lemmas entries c.self.invariant.1 c.args.self.now c.self.view_is c.args.entry c.args.problem.now.points c.args.problem.now.clauses c.requires in
    let root = root_is book lemmas entries c.args.self.now c.args.entry c.args.problem.now.points c.args.problem.now.clauses c.last_number.result c.unwrap-root.result there
    (c.last_number.ensures ∙ ap (λ es. last_of (map (λ n. n.items) es) c.args.entry) c.as_slice.ensures.value) c.unwrap-root.ensures in
    subst (IsRefutation c.args.problem.now.points c.args.problem.now.clauses) (sym c.new.ensures)
    (refutation book lemmas c.self.inside.table.points.items c.self.invariant.0 c.args.problem.now.points c.unwrap-root.result root.within root.on_points
    c.args.problem.now.clauses c.in_ok-lemmas.lemmas.items c.in_ok-lemmas.ensures root.empty)

pub returns-clause-states : goal.returns-clause-states
returns-clause-states c =
    let book = c.self.inside.table.book in
    let lemmas = c.self.inside.table.lemmas.items in
    let entries = map (λ n. n.items) c.self.inside.entries.items in
    let there = root_there book lemmas entries c.self.invariant.1 c.args.self.now c.self.view_is c.args.entry c.args.problem.now.points c.args.problem.now.clauses c.requires in
    let root = root_is book lemmas entries c.args.self.now c.args.entry c.args.problem.now.points c.args.problem.now.clauses c.last_number.result c.unwrap-root.result there
    (c.last_number.ensures ∙ ap (λ es. last_of (map (λ n. n.items) es) c.args.entry) c.as_slice.ensures.value) c.unwrap-root.ensures in
    subst (StatesLast c.args.self.now c.args.entry c.args.problem.now.clauses) (sym c.new.ensures)
    (states_last book lemmas entries c.args.self.now c.args.entry c.args.problem.now.points c.args.problem.now.clauses c.unwrap-root.result c.in_ok-lemmas.lemmas.items root c.in_ok-lemmas.ensures)

pub returns-clause-there : goal.returns-clause-there
returns-clause-there c =
    let book = c.self.inside.table.book in
    let lemmas = c.self.inside.table.lemmas.items in
    let entries = map (λ n. n.items) c.self.inside.entries.items in
    let there = root_there book lemmas entries c.self.invariant.1 c.args.self.now c.self.view_is c.args.entry c.args.problem.now.points c.args.problem.now.clauses c.requires in
    let root = root_is book lemmas entries c.args.self.now c.args.entry c.args.problem.now.points c.args.problem.now.clauses c.last_number.result c.unwrap-root.result there
    (c.last_number.ensures ∙ ap (λ es. last_of (map (λ n. n.items) es) c.args.entry) c.as_slice.ensures.value) c.unwrap-root.ensures in
    subst (AreOfShelf (take (c.args.entry + 1) c.args.self.now) c.args.problem.now.clauses) (sym c.new.ensures)
    (of_shelf book lemmas c.self.inside.table.points.items c.self.invariant.0 c.unwrap-root.result root.within c.args.problem.now.clauses c.in_ok-lemmas.lemmas.items c.in_ok-lemmas.ensures
    entries c.args.self.now c.args.entry c.self.view_is c.self.invariant.2 root.is)

pub returns-clause-cited : goal.returns-clause-cited
returns-clause-cited c =
    let book = c.self.inside.table.book in
    let lemmas = c.self.inside.table.lemmas.items in
    let entries = map (λ n. n.items) c.self.inside.entries.items in
    let there = root_there book lemmas entries c.self.invariant.1 c.args.self.now c.self.view_is c.args.entry c.args.problem.now.points c.args.problem.now.clauses c.requires in
    let root = root_is book lemmas entries c.args.self.now c.args.entry c.args.problem.now.points c.args.problem.now.clauses c.last_number.result c.unwrap-root.result there
    (c.last_number.ensures ∙ ap (λ es. last_of (map (λ n. n.items) es) c.args.entry) c.as_slice.ensures.value) c.unwrap-root.ensures in
    subst AreCited (sym c.new.ensures)
    (are_cited book lemmas c.self.inside.table.points.items c.self.invariant.0 c.unwrap-root.result root.within c.args.problem.now.clauses c.in_ok-lemmas.lemmas.items c.in_ok-lemmas.ensures)
