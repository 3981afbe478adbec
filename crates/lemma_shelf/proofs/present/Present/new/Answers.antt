use Rattle.std.proofs.Common.{List, subst, nat_eq}
use Rattle.std.proofs.lemmas.List.{take_all}
use Rattle.indexmap.specs.IndexMap.{get}
use Rattle.stn_core.specs.declared.literal.Literal.{Literal}
use Rattle.lemma_shelf.specs.code.Tables.{IsPresent}
use Rattle.lemma_shelf.proofs.present.Present.new.Goals as goal

pub returns-clause-present : goal.returns-clause-present
returns-clause-present c =
    subst (λ (seen : List (List Literal)). IsPresent c.args.book.now c.args.clauses.now seen (get nat_eq c.loop-i.map))
    (take_all c.loop-i.i c.args.clauses.now c.loop-i-test.false) c.loop-i.invariant
