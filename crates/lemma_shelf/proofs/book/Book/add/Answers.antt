use Rattle.std.proofs.Common.{List, map, subst}
use Rattle.stn_core.specs.declared.literal.Literal.{Literal}
use Rattle.lemma_shelf.specs.code.Tables.{HasClause}
use Rattle.lemma_shelf.proofs.Books.{added}
use Rattle.lemma_shelf.proofs.book.Book.add.Goals as goal

pub returns-clause-ok : goal.returns-clause-ok
returns-clause-ok c =
    subst (λ (book : List (List Literal)). HasClause book c.args.clause.now c.in_ok-number.number (map (λ k. k.items) c.insert_full.new.self.keys)) c.self.view_is
    (added (λ k. k.items) c.args.clause.now c.self.inside.set.keys c.insert_full.new.self.keys c.in_ok-from_slice.field-0 c.in_ok-number.number c.in_ok-from_slice.ensures.items c.in_ok-number.ensures.keys c.in_ok-number.ensures.stored)
