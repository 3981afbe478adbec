use Rattle.std.proofs.Common.{ap, ◌∙◌, ◌≡◌, ◌<◌, ℕ, List, Bool, false, get_or, length}
use Rattle.std.proofs.lemmas.List.{with_items_is, length-replicate}
use Rattle.refute_tree.specs.declared.lemma.Lemma.{Lemma}
use Rattle.unsat_cores.specs.Cited.{cites_clause}
use Rattle.unsat_cores.specs.Cores.{is_cited_root}
use Rattle.unsat_cores.proofs.Rooted.{roots_marked, all_marked}
use Rattle.unsat_cores.proofs.rooting.cited_roots.Goals as goal

pub returns-clause-each : goal.returns-clause-each
returns-clause-each c = λ r.
    let lent = c.as_mut_slice.ensures in
    let marked = c.mark_sources.ensures in
    let marks = c.mark_sources.new.marks in
    let filled = lent.value ∙ c.in_ok-marks.ensures.items_if_clones_equal (λ y e. e) in
    let within : (r : ℕ) → r < length c.args.roots.now → get_or marks r false ≡ is_cited_root c.args.nodes.now c.args.roots.now c.args.refutation.now r =
    roots_marked c.args.nodes.now c.args.roots.now c.args.refutation.now c.as_slice-2.result.now c.as_slice-3.result.now c.as_mut_slice.result.now marks
    (c.as_slice-2.ensures.value ∙ c.in_ok-sources.ensures)
    (λ i. ap (λ (bs : List Bool). get_or bs i false) c.as_slice-3.ensures.value ∙ c.in_ok-cited.ensures i ∙ ap (λ (ls : List Lemma). cites_clause ls i) c.as_slice.ensures)
    filled marked in
    ap (λ (bs : List Bool). get_or bs r false) (with_items_is c.in_ok-marks.marks marks (marked.0 ∙ lent.len))
    ∙ all_marked c.args.nodes.now c.args.roots.now c.args.refutation.now marks c.sources_law.ensures.within
    (marked.0 ∙ ap length filled ∙ length-replicate (length c.args.roots.now) false) within r
