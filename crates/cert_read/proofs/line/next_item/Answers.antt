use Rattle.std.proofs.Common.{◌∙◌, sym, ap, Ok, Err}
use Rattle.smt_sexpr.specs.declared.error.SexprError.TheVariants.{Refused}
use Rattle.smt_sexpr.specs.declared.error.SexprRefusal.TheVariants.{Lex, UnclosedList}
use Rattle.cert_read.proofs.CertificateLines.{finds_end, finds_error}
use Rattle.cert_read.proofs.ItemByItem.{never_finished, never_lexed, never_unclosed}
use Rattle.cert_read.proofs.line.next_item.Goals as goal

pub returns-in-Ok-None-clause-err : goal.returns-in-Ok-None-clause-err
returns-in-Ok-None-clause-err c =
    let same = c.read_one.ensures.grows.bytes ∙ ap (λ t. t.bytes) c.clear.ensures ∙ sym c.requires.same in
    never_finished c.args.lexer.now.bytes c.args.lexer.now.place c.read_one.new.lexer.place
    (finds_end c.read_one.new.self c.args.lexer.now.bytes same c.args.lexer.now.place c.read_one.new.lexer.place c.read_one.result (c.in-Ok-None.is ∙ ap Ok c.in-Ok-None.field-0-is) (c.read_one.ensures.finds c.requires.fresh))

pub returns-in-Err-Refused-UnclosedList-clause-err : goal.returns-in-Err-Refused-UnclosedList-clause-err
returns-in-Err-Refused-UnclosedList-clause-err c =
    let same = c.read_one.ensures.grows.bytes ∙ ap (λ t. t.bytes) c.clear.ensures ∙ sym c.requires.same in
    let outer = c.in-Err-Refused-UnclosedList.field-0-0-0 in
    let is = c.in-Err-Refused-UnclosedList.is ∙ ap Err (c.in-Err-Refused-UnclosedList.field-0-is ∙ ap Refused c.in-Err-Refused-UnclosedList.field-0-0-is) in
    never_unclosed c.args.lexer.now.bytes c.args.lexer.now.place c.read_one.new.lexer.place outer
    (finds_error c.read_one.new.self c.args.lexer.now.bytes same c.args.lexer.now.place c.read_one.new.lexer.place c.read_one.result (Refused (UnclosedList outer)) is (c.read_one.ensures.finds c.requires.fresh))

pub returns-in-Err-Refused-Lex-clause-err : goal.returns-in-Err-Refused-Lex-clause-err
returns-in-Err-Refused-Lex-clause-err c =
    let same = c.read_one.ensures.grows.bytes ∙ ap (λ t. t.bytes) c.clear.ensures ∙ sym c.requires.same in
    let error = c.in-Err-Refused-Lex.field-0-0-0 in
    let is = c.in-Err-Refused-Lex.is ∙ ap Err (c.in-Err-Refused-Lex.field-0-is ∙ ap Refused c.in-Err-Refused-Lex.field-0-0-is) in
    never_lexed c.args.lexer.now.bytes c.args.lexer.now.place c.read_one.new.lexer.place error
    (finds_error c.read_one.new.self c.args.lexer.now.bytes same c.args.lexer.now.place c.read_one.new.lexer.place c.read_one.result (Refused (Lex error)) is (c.read_one.ensures.finds c.requires.fresh))
