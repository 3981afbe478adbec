use Rattle.std.proofs.Common.{◌∙◌, sym, ap, Ok, Some}
use Rattle.cert_read.proofs.CertificateLines.{finds_end, finds_one, finds_error, no_header_error, no_header_at_end, another_first}
use Rattle.cert_read.proofs.HeaderAndEnd.{header_missing}
use Rattle.cert_read.proofs.header.read_header.Goals as goal

pub returns-in-Ok-None-clause-refused : goal.returns-in-Ok-None-clause-refused
returns-in-Ok-None-clause-refused c = λ fresh.
    let same = c.read_one.ensures.grows.bytes ∙ ap (λ t. t.bytes) c.new-table.ensures ∙ c.bytes.ensures in
    no_header_at_end c.args.lexer.now.bytes c.args.lexer.now.place c.read_one.new.lexer.place
    (finds_end c.read_one.new.self c.args.lexer.now.bytes same c.args.lexer.now.place c.read_one.new.lexer.place c.read_one.result (c.in-Ok-None.is ∙ ap Ok c.in-Ok-None.field-0-is) (c.read_one.ensures.finds fresh))

pub returns-in-Err-clause-refused : goal.returns-in-Err-clause-refused
returns-in-Err-clause-refused c = λ fresh.
    let same = c.read_one.ensures.grows.bytes ∙ ap (λ t. t.bytes) c.new-table.ensures ∙ c.bytes.ensures in
    rw c.told_as.ensures (no_header_error c.args.lexer.now.bytes c.args.lexer.now.place c.read_one.new.lexer.place c.in-Err.error
    (finds_error c.read_one.new.self c.args.lexer.now.bytes same c.args.lexer.now.place c.read_one.new.lexer.place c.read_one.result c.in-Err.error c.in-Err.is (c.read_one.ensures.finds fresh)))

pub returns-in-None-clause-refused : goal.returns-in-None-clause-refused
returns-in-None-clause-refused c = λ fresh.
    let same = c.read_one.ensures.grows.bytes ∙ ap (λ t. t.bytes) c.new-table.ensures ∙ c.bytes.ensures in
    let is = c.in-Ok-Some.is ∙ ap Ok c.in-Ok-Some.field-0-is ∙ ap (λ k. Ok (Some k)) (sym c.in-Ok-Some.id-is) in
    let found = finds_one c.read_one.new.self c.args.lexer.now.bytes same c.args.lexer.now.place c.read_one.new.lexer.place c.read_one.result c.in-Ok-Some.id is (c.read_one.ensures.finds fresh) in
    another_first c.args.lexer.now.bytes c.args.lexer.now.place c.read_one.new.lexer.place found.0 found.2 (header_missing found.0 c.header_version.result c.in-None.is (c.header_version.ensures found.0 found.1))
