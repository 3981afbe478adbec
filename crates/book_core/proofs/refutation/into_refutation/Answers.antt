use Rattle.std.proofs.Common.{◌∙◌, sym, ap, take}
use Rattle.book_core.specs.Shared.{lemmas_of}
use Rattle.book_core.proofs.Concluding.{by_ending}
use Rattle.book_core.proofs.refutation.into_refutation.Goals as goal

pub returns : goal.returns
returns c =
    by_ending c.args.problem.now c.in_ok-ending.ending.steps _ c.in_ok-all.all.items c.in_ok-refutation.refutation c.in_ok-ending.ensures.right
    (c.in_ok-all.ensures ∙ ap (λ xs. take c.in_ok-ending.ending.count (lemmas_of xs)) (sym c.as_slice.ensures.value)) c.in_ok-refutation.ensures
