use Rattle.std.proofs.Common.{[], refl, sym, ap, ◌∙◌, Err, append-nil}
use Rattle.std.proofs.lemmas.Result.{err_from_is_err_and}
use Rattle.cert_text.specs.declared.entry.Version.TheVariants.{One}
use Rattle.cert_text.specs.Form.{end_sexpr, line_of}
use Rattle.cert_stream.specs.code.Streams.{whole_text}
use Rattle.cert_stream.proofs.Pieces.{goes_start, goes_called, goes_end, goes_fails, streams_as}
use Rattle.dtp_convert.proofs.WritingLines.{streams_of, one_of}
use Rattle.dtp_convert.proofs.lines.write_lines.Goals as goal

pub returns-in_err-write_first_line : goal.returns-in_err-write_first_line
returns-in_err-write_first_line g c =
    let start = goes_start (whole_text One c.args.entries.now) [] _ _ in
    let p = err_from_is_err_and c.from_residual.result c.from_residual.ensures.1 in
    one_of _ _ _ _ _ _ (streams_as _ _ (p.1 ∙ ap Err p.2) (goes_fails _ _ _ c.in_err-write_first_line.field-0.0 start refl (streams_of _ _ _ _ _ _ c.in_err-write_first_line.ensures)))

pub returns-in_err-write_each : goal.returns-in_err-write_each
returns-in_err-write_each g c =
    let start = goes_start (whole_text One c.args.entries.now) [] _ _ in
    let first = goes_called _ _ _ start refl (streams_of _ _ _ _ _ _ c.in_ok-write_first_line.ensures) in
    let p = err_from_is_err_and c.from_residual-in_err-write_each.result c.from_residual-in_err-write_each.ensures.1 in
    one_of _ _ _ _ _ _ (streams_as _ _ (p.1 ∙ ap Err p.2) (goes_fails _ _ _ c.in_err-write_each.field-0.0 first refl c.in_err-write_each.ensures))

pub returns-in_err-write_last_line : goal.returns-in_err-write_last_line
returns-in_err-write_last_line g c =
    let start = goes_start (whole_text One c.args.entries.now) [] _ _ in
    let first = goes_called _ _ _ start refl (streams_of _ _ _ _ _ _ c.in_ok-write_first_line.ensures) in
    let each = goes_called _ _ _ first refl c.in_ok-write_each.ensures in
    let p = err_from_is_err_and c.from_residual-in_err-write_last_line.result c.from_residual-in_err-write_last_line.ensures.1 in
    one_of _ _ _ _ _ _ (streams_as _ _ (p.1 ∙ ap Err p.2) (goes_fails _ _ [] c.in_err-write_last_line.field-0.0 each (sym (append-nil (line_of end_sexpr))) (streams_of _ _ _ _ _ _ c.in_err-write_last_line.ensures)))

pub returns : goal.returns
returns g c =
    let start = goes_start (whole_text One c.args.entries.now) [] _ _ in
    let first = goes_called _ _ _ start refl (streams_of _ _ _ _ _ _ c.in_ok-write_first_line.ensures) in
    let each = goes_called _ _ _ first refl c.in_ok-write_each.ensures in
    let last = goes_called _ _ [] each (sym (append-nil (line_of end_sexpr))) (streams_of _ _ _ _ _ _ c.in_ok-write_last_line.ensures) in
    one_of _ _ _ _ _ _ (goes_end [] last [] refl)
