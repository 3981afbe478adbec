use Rattle.std.proofs.Common.{◌∙◌, sym, subst}
use Rattle.stn_core.specs.declared.problem.Problem.{Problem}
use Rattle.carried_lemmas.specs.Shared.{lemmas_of}
use Rattle.book_core.specs.Books.{IsOpening}
use Rattle.learned_lemmas.proofs.Kept.{kept_opens}
use Rattle.learned_lemmas.proofs.learned.Learned.of.Goals as goal

pub invariant_of-result : goal.invariant_of-result
invariant_of-result c =
    let lemmas = lemmas_of c.in_ok-lemmas.lemmas.items in
    let opens = kept_opens c.args.problem.now c.args.refutation.now c.into_lemmas.result.items lemmas c.new-batch.result c.in_ok-left.left.batch c.requires.refutes c.requires.over
    c.new-batch.ensures.seen (c.new-batch.ensures.lemmas ∙ c.in_ok-copies.ensures) c.in_ok-left.ensures.refuted c.in_ok-left.ensures.over c.into_lemmas.ensures c.in_ok-lemmas.ensures in
    subst (λ (problem : Problem). IsOpening problem lemmas) (sym c.in_ok-problem.ensures) opens
