use Rattle.std.proofs.Common.{◌≡◌, map, ap, sym, ◌∙◌, length}
use Rattle.std.proofs.lemmas.List.{length-map, with_items_is}
use Rattle.refute_tree.specs.Lengths.{lengthened_lemma}
use Rattle.dtp_convert.proofs.lemmas.written_out.Goals as goal

pub returns : goal.returns
returns c =
    let given = c.into_vec-lemmas.result in
    let longer = lengthened_lemma c.args.problem.now.clauses in
    let now = c.write_out_each.new.lemmas in
    let moved : now ≡ map longer given.items = c.in_ok-write_out_each.ensures ∙ ap (map longer) c.as_mut_slice.ensures.value in
    let long : length now ≡ given.len = ap length moved ∙ length-map given.items longer ∙ sym given.ok.0 in
    c.new.ensures ∙ with_items_is given now long ∙ moved ∙ ap (map longer) c.into_vec-lemmas.ensures
