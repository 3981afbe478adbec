use Rattle.std.proofs.Common.{length, map, sym, ap, ◌∙◌, refl}
use Rattle.std.proofs.lemmas.Option.{slice_get_read}
use Rattle.lemma_shelf.specs.ItemFlaws.{item_clause}
use Rattle.lemma_shelf.specs.code.Walks.{shelf_in}
use Rattle.lemma_shelf.proofs.Keeping.{within, clause_kept}
use Rattle.lemma_shelf.proofs.check.check_item.Goals as goal

pub returns-in-Ok-clause-clause : goal.returns-in-Ok-clause-clause
returns-in-Ok-clause-clause c = c.as_slice-in-Ok.ensures ∙
    clause_kept c.args.table.now.book c.args.table.now.lemmas.items (map (λ n. n.items) c.args.entries.now) c.in-Keep.kept c.in-Ok.number c.index.result.now c.in-Ok.ensures.ok.0
    (slice_get_read c.args.table.now.lemmas.items (length c.args.table.now.lemmas.items) c.in-Ok.number c.index.result.now refl
    (within c.args.table.now.book c.args.table.now.lemmas.items c.args.table.now.points.items c.requires.table (map (λ n. n.items) c.args.entries.now)
    c.args.problem.now.points c.args.problem.now.clauses c.in-Keep.kept c.in-Ok.number c.in-Ok.ensures.ok.0 c.requires.entries) c.index.ensures)
    ∙ ap (item_clause (shelf_in c.args.table.now (map (λ n. n.items) c.args.entries.now))) (sym c.in-Keep.is)
