use Rattle.std.proofs.Common.{List, ℕ, ap, ◌∙◌, subst, Err}
use Rattle.std.proofs.lemmas.Result.{err_from_is_err_and}
use Rattle.dtp_entry.specs.Written.{Writes, IsFront}
use Rattle.cert_stream.proofs.Pieces.{line_part}
use Rattle.cert_stream.proofs.stream.write_shown.Goals as goal

pub returns-in_err-write_text : goal.returns-in_err-write_text
returns-in_err-write_text g c =
    let p = err_from_is_err_and c.from_residual-in_err-write_text.result c.from_residual-in_err-write_text.ensures.1 in
    let told = c.in_err-write_text.ensures in
    let front = subst (λ (text : List ℕ). Writes (g.K.Sink.holds c.stream_shown.new.sink) (g.K.Sink.holds c.write_text.new.sink) (λ added. IsFront added text)) c.as_slice.ensures.value told.err in
    line_part _ _ _ c.new-text.ensures.items c.in_ok-stream_shown.ensures front told.cause told.fault told.later (p.1 ∙ ap Err p.2)
