use Rattle.std.proofs.Common.{refl, ap, ◌∙◌, Err}
use Rattle.std.proofs.lemmas.Result.{err_from_is_err_and}
use Rattle.cert_stream.proofs.Pieces.{goes_start, goes_pushed, goes_called, goes_memory, goes_fails, streams_as}
use Rattle.cert_stream.proofs.stream.stream_line.Goals as goal

pub returns-in_err-stream_behind : goal.returns-in_err-stream_behind
returns-in_err-stream_behind g c =
    let at = goes_pushed _ _ _ (goes_start _ c.args.text.now.items _ _) refl c.push_str.new.self.items c.in_ok-push_str.ensures.ok in
    let p = err_from_is_err_and c.from_residual-in_err-stream_behind.result c.from_residual-in_err-stream_behind.ensures.1 in
    streams_as _ _ (p.1 ∙ ap Err p.2) (goes_fails _ _ _ c.in_err-stream_behind.field-0.0 at refl c.in_err-stream_behind.ensures)

pub returns-in_err-push_str-2 : goal.returns-in_err-push_str-2
returns-in_err-push_str-2 g c =
    let at = goes_pushed _ _ _ (goes_start _ c.args.text.now.items _ _) refl c.push_str.new.self.items c.in_ok-push_str.ensures.ok in
    let then = goes_called _ _ _ at refl c.in_ok-stream_behind.ensures in
    let p = err_from_is_err_and c.from_residual-in_err-push_str-2.result c.from_residual-in_err-push_str-2.ensures.1 in
    streams_as _ _ p.1 (goes_memory _ _ p.0 then p.2)
