use Rattle.std.proofs.Common.{ap, ◌∙◌, List}
use Rattle.refute_tree.specs.declared.lemma.Lemma.{Lemma}
use Rattle.unsat_cores.specs.Cited.{cites_clause}
use Rattle.unsat_cores.specs.code.Sweeping.{true_places}
use Rattle.unsat_cores.proofs.Swept.{are_cited}
use Rattle.unsat_cores.proofs.citing.cited.Goals as goal

pub returns : goal.returns
returns c =
    are_cited c.args.refutation.now c.in_ok-marks.marks.items c.in_ok-numbers.numbers.items
    (λ i. c.in_ok-marks.ensures i ∙ ap (λ (ls : List Lemma). cites_clause ls i) c.as_slice.ensures)
    (c.in_ok-numbers.ensures ∙ ap (true_places 0) c.as_slice-2.ensures.value)
