use Rattle.std.proofs.Common.{◌≡◌, length, map, refl, sym, ◌∙◌}
use Rattle.std.proofs.lemmas.Option.{slice_get_read}
use Rattle.kept_lemmas.specs.declared.item.Item.TheVariants.{Keep}
use Rattle.lemma_shelf.specs.ItemFlaws.{item_clause}
use Rattle.lemma_shelf.specs.code.Walks.{shelf_in}
use Rattle.lemma_shelf.proofs.Keeping.{within, clause_kept}
use Rattle.lemma_shelf.proofs.citing.stands.Goals as goal

pub returns-in-Ok-clause-stands : goal.returns-in-Ok-clause-stands
returns-in-Ok-clause-stands c =
    let there : c.as_slice-there.result.now ≡ item_clause (shelf_in c.args.table.now (map (λ n. n.items) c.args.entries.now)) (Keep c.args.place) =
    c.as_slice-there.ensures
    ∙ clause_kept c.args.table.now.book c.args.table.now.lemmas.items (map (λ n. n.items) c.args.entries.now) c.args.place c.in-Ok.number c.index.result.now c.in-Ok.ensures.ok.0
    (slice_get_read c.args.table.now.lemmas.items (length c.args.table.now.lemmas.items) c.in-Ok.number c.index.result.now refl
    (within c.args.table.now.book c.args.table.now.lemmas.items c.args.table.now.points.items c.requires.table (map (λ n. n.items) c.args.entries.now)
    c.args.problem.now.points c.args.problem.now.clauses c.args.place c.in-Ok.number c.in-Ok.ensures.ok.0 c.requires.entries) c.index.ensures) in
    (λ same. (c.in-Ok.ensures.ok.1, sym there ∙ c.are_same.ensures.0 same), λ states. c.are_same.ensures.1 (there ∙ states.1))
