use Rattle.cert_read.proofs.CertificateLines.{ends_here}
use Rattle.cert_read.proofs.entries.read_entry.Goals as goal

pub returns-in_ok-read_rest-in-End-clause-end : goal.returns-in_ok-read_rest-in-End-clause-end
returns-in_ok-read_rest-in-End-clause-end c = λ none.
    let lexer = c.args.lexer.now in
    ends_here c.args.version lexer.bytes lexer.place c.read_line.new.lexer.place c.in_ok-entry.field-0 c.in_ok-entry.ensures.line c.in-End.is
    c.read_line.new.lexer.bytes c.read_rest.new.lexer.place c.read_line.ensures.lexer_bytes c.in_ok-read_rest-in-End.ensures.ok
