use Rattle.std.proofs.Common.{◌≡◌, None, map, subst}
use Rattle.kept_lemmas.specs.Facts.{Shelf}
use Rattle.kept_lemmas.specs.Entries.{AreRight}
use Rattle.lemma_shelf.specs.ItemFlaws.{items_flaw}
use Rattle.lemma_shelf.specs.code.Walks.{shelf_in}
use Rattle.lemma_shelf.proofs.Refuting.{refutes}
use Rattle.lemma_shelf.proofs.tree_shelf.TreeShelf.check_entry.Goals as goal

pub returns-clause-refutes : goal.returns-clause-refutes
returns-clause-refutes c =
    let none : items_flaw (shelf_in c.self.inside.table (map (λ n. n.items) c.self.inside.entries.items)) c.args.problem.now.points c.args.problem.now.clauses c.args.items.now ≡ None =
    subst (λ es. items_flaw (shelf_in c.self.inside.table (map (λ n. n.items) es)) c.args.problem.now.points c.args.problem.now.clauses c.args.items.now ≡ None) c.as_slice.ensures.value c.in_ok-check.ensures in
    let here : items_flaw c.args.self.now c.args.problem.now.points c.args.problem.now.clauses c.args.items.now ≡ None =
    subst (λ (shelf : Shelf). items_flaw shelf c.args.problem.now.points c.args.problem.now.clauses c.args.items.now ≡ None) c.self.view_is none in
    let right : AreRight c.args.self.now c.args.problem.now.points c.args.problem.now.clauses c.args.items.now = (c.flaw_law.ensures.items c.args.self.now c.args.problem.now.points c.args.problem.now.clauses c.args.items.now).0 here in
    refutes c.args.self.now c.add_entry.new.self c.args.problem.now.points c.args.problem.now.clauses c.args.items.now right
    (c.usable_law.ensures c.args.self.now c.args.problem.now.points c.args.problem.now.clauses c.args.items.now right) c.in_ok-add_entry.ensures.ok
