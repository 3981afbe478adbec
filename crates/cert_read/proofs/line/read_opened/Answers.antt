use Rattle.std.proofs.Common.{refl, ◌∙◌, sym, rules}
use Rattle.cert_text.specs.declared.entry.FileEntry.TheVariants.{Sat, Unsat}
use Rattle.cert_read.specs.Parts.{item_of, named_value_of, best_from, unbounded_from}
use Rattle.cert_read.specs.declared.line.Head.TheVariants as head
use Rattle.cert_read.proofs.ItemByItem.{next_some, next_none}
use Rattle.cert_read.proofs.OpenedLines.{empty_list, opened, opened_as, opened_end, lacking, lacking_as, not_alone, other_head, no_line_behind}
use Rattle.cert_read.proofs.line.read_opened.Goals as goal

pub returns-in-None-clause-err : goal.returns-in-None-clause-err
returns-in-None-clause-err c =
    empty_list c.args.version c.args.lexer.now.bytes c.args.lexer.now.place c.next_item.new.lexer.place
    (next_none c.next_item.new.table c.args.lexer.now.bytes c.args.lexer.now.place c.next_item.new.lexer.place c.in_ok-next_item.field-0 c.in-None.is c.in_ok-next_item.ensures.next)

pub returns-in_err-values-in-Sat-clause-err : goal.returns-in_err-values-in-Sat-clause-err
returns-in_err-values-in-Sat-clause-err c =
    let next = next_some c.next_item.new.table c.args.lexer.now.bytes c.args.lexer.now.place c.next_item.new.lexer.place c.in_ok-next_item.field-0 c.in-Some.id c.in-Some.is c.in_ok-next_item.ensures.next in
    let first = sym (c.head_of.ensures next.0 next.1) ∙ c.in-Sat.is in
    search (rules, lacking c.args.version c.args.lexer.now.bytes c.args.lexer.now.place c.next_item.new.lexer.place next.0 next.2 named_value_of Sat head.Sat (λ xs. refl) (λ e. absurd cc) _ first (rw c.next_item.ensures.lexer_bytes at c.in_err-values-in-Sat.ensures.err))

pub returns-in_err-items-in-Unsat-clause-err : goal.returns-in_err-items-in-Unsat-clause-err
returns-in_err-items-in-Unsat-clause-err c =
    let next = next_some c.next_item.new.table c.args.lexer.now.bytes c.args.lexer.now.place c.next_item.new.lexer.place c.in_ok-next_item.field-0 c.in-Some.id c.in-Some.is c.in_ok-next_item.ensures.next in
    let first = sym (c.head_of.ensures next.0 next.1) ∙ c.in-Unsat.is in
    search (rules, lacking c.args.version c.args.lexer.now.bytes c.args.lexer.now.place c.next_item.new.lexer.place next.0 next.2 (item_of c.args.version) Unsat head.Unsat (λ xs. refl) (λ e. absurd cc) _ first (rw c.next_item.ensures.lexer_bytes at c.in_err-items-in-Unsat.ensures.err))

pub returns-in_err-read_close-in-End-clause-err : goal.returns-in_err-read_close-in-End-clause-err
returns-in_err-read_close-in-End-clause-err c =
    let next = next_some c.next_item.new.table c.args.lexer.now.bytes c.args.lexer.now.place c.next_item.new.lexer.place c.in_ok-next_item.field-0 c.in-Some.id c.in-Some.is c.in_ok-next_item.ensures.next in
    let first = sym (c.head_of.ensures next.0 next.1) ∙ c.in-End.is in
    search (rules, not_alone c.args.version c.args.lexer.now.bytes c.args.lexer.now.place c.next_item.new.lexer.place next.0 next.2 _ first (rw c.next_item.ensures.lexer_bytes at c.in_err-read_close-in-End.ensures.err))

pub returns-in_err-skip_items-in-Other-clause-err : goal.returns-in_err-skip_items-in-Other-clause-err
returns-in_err-skip_items-in-Other-clause-err c =
    let next = next_some c.next_item.new.table c.args.lexer.now.bytes c.args.lexer.now.place c.next_item.new.lexer.place c.in_ok-next_item.field-0 c.in-Some.id c.in-Some.is c.in_ok-next_item.ensures.next in
    search (rules, no_line_behind c.args.version c.args.lexer.now.bytes c.args.lexer.now.place c.next_item.new.lexer.place next.0 next.2 _ (rw c.next_item.ensures.lexer_bytes at c.in_err-skip_items-in-Other.ensures.err))

pub returns-in_ok-values-in-Sat-clause-ok : goal.returns-in_ok-values-in-Sat-clause-ok
returns-in_ok-values-in-Sat-clause-ok c =
    let next = next_some c.next_item.new.table c.args.lexer.now.bytes c.args.lexer.now.place c.next_item.new.lexer.place c.in_ok-next_item.field-0 c.in-Some.id c.in-Some.is c.in_ok-next_item.ensures.next in
    let first = sym (c.head_of.ensures next.0 next.1) ∙ c.in-Sat.is in
    rw c.new.ensures (opened c.args.version c.args.lexer.now.bytes c.args.lexer.now.place c.next_item.new.lexer.place next.0 next.2 named_value_of Sat head.Sat (λ xs. refl) c.in_ok-values-in-Sat.values.items c.read_items.new.lexer.place first (rw c.next_item.ensures.lexer_bytes at c.in_ok-values-in-Sat.ensures.ok))

pub returns-in_ok-items-in-Unsat-clause-ok : goal.returns-in_ok-items-in-Unsat-clause-ok
returns-in_ok-items-in-Unsat-clause-ok c =
    let next = next_some c.next_item.new.table c.args.lexer.now.bytes c.args.lexer.now.place c.next_item.new.lexer.place c.in_ok-next_item.field-0 c.in-Some.id c.in-Some.is c.in_ok-next_item.ensures.next in
    let first = sym (c.head_of.ensures next.0 next.1) ∙ c.in-Unsat.is in
    rw c.new-in-Unsat.ensures (opened c.args.version c.args.lexer.now.bytes c.args.lexer.now.place c.next_item.new.lexer.place next.0 next.2 (item_of c.args.version) Unsat head.Unsat (λ xs. refl) c.in_ok-items-in-Unsat.items.items c.read_items-in-Unsat.new.lexer.place first (rw c.next_item.ensures.lexer_bytes at c.in_ok-items-in-Unsat.ensures.ok))

pub returns-in_ok-read_close-in-End-clause-ok : goal.returns-in_ok-read_close-in-End-clause-ok
returns-in_ok-read_close-in-End-clause-ok c =
    let next = next_some c.next_item.new.table c.args.lexer.now.bytes c.args.lexer.now.place c.next_item.new.lexer.place c.in_ok-next_item.field-0 c.in-Some.id c.in-Some.is c.in_ok-next_item.ensures.next in
    let first = sym (c.head_of.ensures next.0 next.1) ∙ c.in-End.is in
    opened_end c.args.version c.args.lexer.now.bytes c.args.lexer.now.place c.next_item.new.lexer.place next.0 next.2 c.read_close.new.lexer.place first (rw c.next_item.ensures.lexer_bytes at c.in_ok-read_close-in-End.ensures.ok)

pub returns-in_ok-skip_items-in-Other-clause-err : goal.returns-in_ok-skip_items-in-Other-clause-err
returns-in_ok-skip_items-in-Other-clause-err c =
    let next = next_some c.next_item.new.table c.args.lexer.now.bytes c.args.lexer.now.place c.next_item.new.lexer.place c.in_ok-next_item.field-0 c.in-Some.id c.in-Some.is c.in_ok-next_item.ensures.next in
    let first = sym (c.head_of.ensures next.0 next.1) ∙ c.in-Other.is in
    other_head c.args.version c.args.lexer.now.bytes c.args.lexer.now.place c.next_item.new.lexer.place next.0 next.2 c.skip_items.new.lexer.place first (rw c.next_item.ensures.lexer_bytes at c.in_ok-skip_items-in-Other.ensures.ok)

pub returns-in_err-read_best-in-Best-clause-err : goal.returns-in_err-read_best-in-Best-clause-err
returns-in_err-read_best-in-Best-clause-err c =
    let next = next_some c.next_item.new.table c.args.lexer.now.bytes c.args.lexer.now.place c.next_item.new.lexer.place c.in_ok-next_item.field-0 c.in-Some.id c.in-Some.is c.in_ok-next_item.ensures.next in
    let first = sym (c.head_of.ensures next.0 next.1) ∙ c.in-Best.is in
    search (rules, lacking_as c.args.version c.args.lexer.now.bytes c.args.lexer.now.place c.next_item.new.lexer.place next.0 next.2 (best_from c.args.version) head.Best (λ xs. refl) (λ e. absurd cc) _ first (rw c.next_item.ensures.lexer_bytes at c.in_err-read_best-in-Best.ensures.err))

pub returns-in_ok-read_best-in-Best-clause-ok : goal.returns-in_ok-read_best-in-Best-clause-ok
returns-in_ok-read_best-in-Best-clause-ok c =
    let next = next_some c.next_item.new.table c.args.lexer.now.bytes c.args.lexer.now.place c.next_item.new.lexer.place c.in_ok-next_item.field-0 c.in-Some.id c.in-Some.is c.in_ok-next_item.ensures.next in
    let first = sym (c.head_of.ensures next.0 next.1) ∙ c.in-Best.is in
    opened_as c.args.version c.args.lexer.now.bytes c.args.lexer.now.place c.next_item.new.lexer.place next.0 next.2 (best_from c.args.version) head.Best (λ xs. refl) c.in_ok-read_best-in-Best.field-0 c.read_best.new.lexer.place first (rw c.next_item.ensures.lexer_bytes at c.in_ok-read_best-in-Best.ensures.ok)

pub returns-in_err-read_unbounded-in-Unbounded-clause-err : goal.returns-in_err-read_unbounded-in-Unbounded-clause-err
returns-in_err-read_unbounded-in-Unbounded-clause-err c =
    let next = next_some c.next_item.new.table c.args.lexer.now.bytes c.args.lexer.now.place c.next_item.new.lexer.place c.in_ok-next_item.field-0 c.in-Some.id c.in-Some.is c.in_ok-next_item.ensures.next in
    let first = sym (c.head_of.ensures next.0 next.1) ∙ c.in-Unbounded.is in
    search (rules, lacking_as c.args.version c.args.lexer.now.bytes c.args.lexer.now.place c.next_item.new.lexer.place next.0 next.2 unbounded_from head.Unbounded (λ xs. refl) (λ e. absurd cc) _ first (rw c.next_item.ensures.lexer_bytes at c.in_err-read_unbounded-in-Unbounded.ensures.err))

pub returns-in_ok-read_unbounded-in-Unbounded-clause-ok : goal.returns-in_ok-read_unbounded-in-Unbounded-clause-ok
returns-in_ok-read_unbounded-in-Unbounded-clause-ok c =
    let next = next_some c.next_item.new.table c.args.lexer.now.bytes c.args.lexer.now.place c.next_item.new.lexer.place c.in_ok-next_item.field-0 c.in-Some.id c.in-Some.is c.in_ok-next_item.ensures.next in
    let first = sym (c.head_of.ensures next.0 next.1) ∙ c.in-Unbounded.is in
    opened_as c.args.version c.args.lexer.now.bytes c.args.lexer.now.place c.next_item.new.lexer.place next.0 next.2 unbounded_from head.Unbounded (λ xs. refl) c.in_ok-read_unbounded-in-Unbounded.field-0 c.read_unbounded.new.lexer.place first (rw c.next_item.ensures.lexer_bytes at c.in_ok-read_unbounded-in-Unbounded.ensures.ok)
