use Rattle.std.proofs.Common.{sym, ◌∙◌}
use Rattle.lemma_shelf.proofs.Books.{alike_forth, alike_back}
use Rattle.lemma_shelf.proofs.citing.are_same.Goals as goal

pub returns : goal.returns
returns c = (λ t. alike_forth c.args.one.now c.args.other.now (sym c.eq.ensures ∙ t), λ e. c.eq.ensures ∙ alike_back c.args.one.now c.args.other.now e)
