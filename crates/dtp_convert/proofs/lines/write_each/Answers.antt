use Rattle.std.proofs.Common.{◌+◌, ◌++◌, drop, sym, ap, ◌∙◌, Err}
use Rattle.std.proofs.lemmas.List.{at_drop_more}
use Rattle.std.proofs.lemmas.Result.{err_from_is_err_and}
use Rattle.cert_text.specs.declared.entry.Entry.{Entry}
use Rattle.cert_text.specs.Form.{entry_sexpr, line_of}
use Rattle.cert_stream.specs.code.Streams.{entry_lines}
use Rattle.cert_stream.proofs.Pieces.{goes_called, goes_fails, streams_as}
use Rattle.dtp_convert.proofs.WritingLines.{streams_of}
use Rattle.dtp_convert.proofs.lines.write_each.Goals as goal

pub returns-in_err-write_entry : goal.returns-in_err-write_entry
returns-in_err-write_entry g c =
    let entries = c.args.entries.now in
    let i = c.loop-entry.entry-index in
    let next = at_drop_more entry_lines entries i c.entry-item.result c.loop-entry-test.true ∙ ap (λ (x : Entry). line_of (entry_sexpr x) ++ entry_lines (drop (i + 1) entries)) (sym c.entry-item.is) in
    let p = err_from_is_err_and c.from_residual.result c.from_residual.ensures.1 in
    streams_as _ _ (p.1 ∙ ap Err p.2) (goes_fails _ _ _ c.in_err-write_entry.field-0.0 c.loop-entry.invariant next (streams_of _ _ _ _ _ _ c.in_err-write_entry.ensures))

pub loop-entry-preserved : goal.loop-entry-preserved
loop-entry-preserved g c =
    let entries = c.args.entries.now in
    let i = c.loop-entry.entry-index in
    let next = at_drop_more entry_lines entries i c.entry-item.result c.loop-entry-test.true ∙ ap (λ (x : Entry). line_of (entry_sexpr x) ++ entry_lines (drop (i + 1) entries)) (sym c.entry-item.is) in
    goes_called _ _ _ c.loop-entry.invariant next (streams_of _ _ _ _ _ _ c.in_ok-write_entry.ensures)
