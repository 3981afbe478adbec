use Rattle.std.proofs.Common.{sym, ap}
use Rattle.smt_lex.specs.Bytes.{is_symbol_byte}
use Rattle.cert_text.specs.declared.entry.Entry.{Entry}
use Rattle.cert_text.specs.Form.{file_entry_sexpr, line_of, shown_by}
use Rattle.cert_stream.proofs.Pieces.{streams_text}
use Rattle.cert_stream.proofs.stream.stream_shown.Goals as goal

pub returns-in-Unsat : goal.returns-in-Unsat
unfolding is_symbol_byte
returns-in-Unsat g c =
    streams_text (ap (λ (entry : Entry). line_of (file_entry_sexpr (shown_by entry c.args.items.now))) (sym c.in-Unsat.is)) c.stream_line-in-Unsat.ensures
