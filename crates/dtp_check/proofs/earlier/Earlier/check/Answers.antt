use Rattle.std.proofs.Common.{sym, subst, []}
use Rattle.std.specs.Prelude.{OnOk}
use Rattle.kept_lemmas.specs.Entries.{shelf_of}
use Rattle.lemma_shelf.specs.ItemFlaws.{items_flaw}
use Rattle.dtp_check.specs.declared.earlier.Earlier.{Earlier}
use Rattle.dtp_check.specs.code.Earlier.{LastRefutes}
use Rattle.dtp_check.proofs.Held.{none_anywhere, right_on}
use Rattle.dtp_check.proofs.earlier.Earlier.check.Goals as goal

pub returns-in-Unkept-clause-flaw : goal.returns-in-Unkept-clause-flaw
returns-in-Unkept-clause-flaw c = λ before held. c.check_items.ensures (shelf_of before)

pub returns-in-Unkept-clause-refutes : goal.returns-in-Unkept-clause-refutes
returns-in-Unkept-clause-refutes c =
    let points = c.args.problem.now.points in
    let clauses = c.args.problem.now.clauses in
    let items = c.args.items.now in
    subst (λ (earlier : Earlier). OnOk c.check_items.result (LastRefutes earlier points clauses items)) (sym c.in-Unkept.is)
    (none_anywhere (λ shelf. items_flaw shelf points clauses items) c.check_items.result c.check_items.ensures)

pub returns-in-Unkept-clause-right : goal.returns-in-Unkept-clause-right
returns-in-Unkept-clause-right c =
    let points = c.args.problem.now.points in
    let clauses = c.args.problem.now.clauses in
    let items = c.args.items.now in
    right_on (λ shelf. items_flaw shelf points clauses items) c.check_items.result [] (c.check_items.ensures [])
