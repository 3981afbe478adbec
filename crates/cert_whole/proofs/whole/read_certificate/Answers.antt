use Rattle.std.proofs.Common.{rules}
use Rattle.cert_whole.proofs.Headed.{whole_read, whole_refused}
use Rattle.cert_whole.proofs.whole.read_certificate.Goals as goal

pub returns-clause-entries : goal.returns-clause-entries
returns-clause-entries c = λ fresh.
    whole_read c.args.lexer.bytes c.args.lexer.place c.in_ok-reader.reader (c.in_ok-reader.ensures.header fresh) c.in_ok-reader.ensures.bytes c.in_ok-entries.entries.items c.in_ok-entries.ensures.entries

pub returns-in_err-entries-clause-refused : goal.returns-in_err-entries-clause-refused
returns-in_err-entries-clause-refused c = λ fresh.
    search (rules, whole_refused c.args.lexer.bytes c.args.lexer.place c.in_ok-reader.reader (c.in_ok-reader.ensures.header fresh) c.in_ok-reader.ensures.bytes c.in_ok-reader.ensures.count _ c.in_err-entries.ensures.refused)
