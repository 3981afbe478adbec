use Rattle.std.proofs.Common.{[], subst, Option}
use Rattle.cert_check.specs.declared.flaw.Flaw.{Flaw}
use Rattle.cert_check.specs.Flaws.{TellsFlaw}
use Rattle.lemma_shelf.specs.code.Walks.{shelf_in}
use Rattle.lemma_shelf.proofs.Keeping.{owned_flaw_same}
use Rattle.lemma_shelf.proofs.check.check_items.Goals as goal

pub returns : goal.returns
returns c = λ shelf.
    subst (λ (f : Option Flaw). TellsFlaw f c.check-result.result)
    (owned_flaw_same (shelf_in c.new-table.result []) shelf c.args.problem.now.points c.args.problem.now.clauses [] c.args.items.now c.requires)
    c.check-result.ensures
