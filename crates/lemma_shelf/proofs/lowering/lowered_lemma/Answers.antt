use Rattle.std.proofs.Common.{◌≡◌, List, length, take, get_or, Some, All, refl, sym, subst}
use Rattle.std.specs.Prelude.{slice_get}
use Rattle.std.proofs.lemmas.Option.{slice_get_read}
use Rattle.refute_tree.specs.declared.step.Step.{Step}
use Rattle.lemma_shelf.specs.code.Tables.{StepIsClosed}
use Rattle.lemma_shelf.specs.code.Walks.{places}
use Rattle.lemma_shelf.specs.code.WrittenOut.{ArePlaced}
use Rattle.lemma_shelf.proofs.Placing.{closed_before, number_within}
use Rattle.lemma_shelf.proofs.lowering.lowered_lemma.Goals as goal

pub lowered_steps-requires-clause-closed : goal.lowered_steps-requires-clause-closed
lowered_steps-requires-clause-closed c =
    let number = get_or c.args.numbers.now c.args.i 0 in
    let lt = number_within c.args.table.now.book c.args.table.now.lemmas.items c.args.table.now.points.items c.requires.whole (places c.args.present.now) c.args.numbers.now c.requires.rises c.args.i c.requires.i c.requires.closed in
    let is : slice_get c.args.table.now.lemmas.items number ≡ Some c.index-lemma.result.now = slice_get_read c.args.table.now.lemmas.items (length c.args.table.now.lemmas.items) number c.index-lemma.result.now refl lt c.index-lemma.ensures in
    subst (λ (steps : List Step). All (StepIsClosed (places c.args.present.now) (take c.args.i c.args.numbers.now)) steps) (sym c.reader.ensures)
    (closed_before c.args.table.now.book c.args.table.now.lemmas.items c.args.table.now.points.items c.requires.whole (places c.args.present.now) c.args.numbers.now c.requires.rises c.args.i c.requires.i c.index-lemma.result.now c.requires.closed is)

pub returns : goal.returns
returns c =
    let number = get_or c.args.numbers.now c.args.i 0 in
    let lt = number_within c.args.table.now.book c.args.table.now.lemmas.items c.args.table.now.points.items c.requires.whole (places c.args.present.now) c.args.numbers.now c.requires.rises c.args.i c.requires.i c.requires.closed in
    record {
      lemma = c.index-lemma.result.now;
      at = slice_get_read c.args.table.now.lemmas.items (length c.args.table.now.lemmas.items) number c.index-lemma.result.now refl lt c.index-lemma.ensures;
      clause = c.in_ok-clause.ensures;
      steps = subst (λ (steps : List Step). ArePlaced (places c.args.present.now) (take c.args.i c.args.numbers.now) steps c.in_ok-steps.steps) c.reader.ensures c.in_ok-steps.ensures;
    }
