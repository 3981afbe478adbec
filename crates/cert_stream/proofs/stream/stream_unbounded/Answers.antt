use Rattle.std.proofs.Common.{refl, ap, ◌∙◌, Err}
use Rattle.std.proofs.lemmas.Result.{err_from_is_err_and}
use Rattle.cert_stream.proofs.Pieces.{goes_start, goes_pushed, goes_called, goes_end, goes_memory, goes_fails, streams_as}
use Rattle.cert_stream.proofs.ObjectiveLines.{unbounded_line}
use Rattle.cert_stream.proofs.stream.stream_unbounded.Goals as goal

pub returns-in_err-stream_list : goal.returns-in_err-stream_list
returns-in_err-stream_list g c =
    let at = goes_pushed _ _ _ (goes_start _ c.args.text.now.items _ _) (unbounded_line c.args.values.now c.args.points.now) c.push_str.new.self.items c.in_ok-push_str.ensures.ok in
    let p = err_from_is_err_and c.from_residual-in_err-stream_list.result c.from_residual-in_err-stream_list.ensures.1 in
    streams_as _ _ (p.1 ∙ ap Err p.2) (goes_fails _ _ _ c.in_err-stream_list.field-0.0 at refl c.in_err-stream_list.ensures)

pub returns-in_err-push_str-2 : goal.returns-in_err-push_str-2
returns-in_err-push_str-2 g c =
    let at = goes_pushed _ _ _ (goes_start _ c.args.text.now.items _ _) (unbounded_line c.args.values.now c.args.points.now) c.push_str.new.self.items c.in_ok-push_str.ensures.ok in
    let then = goes_called _ _ _ at refl c.in_ok-stream_list.ensures in
    let p = err_from_is_err_and c.from_residual-in_err-push_str-2.result c.from_residual-in_err-push_str-2.ensures.1 in
    streams_as _ _ p.1 (goes_memory _ _ p.0 then p.2)

pub returns-in_err-stream_list-2 : goal.returns-in_err-stream_list-2
returns-in_err-stream_list-2 g c =
    let at = goes_pushed _ _ _ (goes_start _ c.args.text.now.items _ _) (unbounded_line c.args.values.now c.args.points.now) c.push_str.new.self.items c.in_ok-push_str.ensures.ok in
    let then = goes_called _ _ _ at refl c.in_ok-stream_list.ensures in
    let spaced = goes_pushed _ _ _ then refl c.push_str-2.new.self.items c.in_ok-push_str-2.ensures.ok in
    let p = err_from_is_err_and c.from_residual-in_err-stream_list-2.result c.from_residual-in_err-stream_list-2.ensures.1 in
    streams_as _ _ (p.1 ∙ ap Err p.2) (goes_fails _ _ _ c.in_err-stream_list-2.field-0.0 spaced refl c.in_err-stream_list-2.ensures)

pub returns-in_err-push_str-3 : goal.returns-in_err-push_str-3
returns-in_err-push_str-3 g c =
    let at = goes_pushed _ _ _ (goes_start _ c.args.text.now.items _ _) (unbounded_line c.args.values.now c.args.points.now) c.push_str.new.self.items c.in_ok-push_str.ensures.ok in
    let then = goes_called _ _ _ at refl c.in_ok-stream_list.ensures in
    let spaced = goes_pushed _ _ _ then refl c.push_str-2.new.self.items c.in_ok-push_str-2.ensures.ok in
    let listed = goes_called _ _ _ spaced refl c.in_ok-stream_list-2.ensures in
    let p = err_from_is_err_and c.from_residual-in_err-push_str-3.result c.from_residual-in_err-push_str-3.ensures.1 in
    streams_as _ _ p.1 (goes_memory _ _ p.0 listed p.2)

pub returns : goal.returns
returns g c =
    let at = goes_pushed _ _ _ (goes_start _ c.args.text.now.items _ _) (unbounded_line c.args.values.now c.args.points.now) c.push_str.new.self.items c.in_ok-push_str.ensures.ok in
    let then = goes_called _ _ _ at refl c.in_ok-stream_list.ensures in
    let spaced = goes_pushed _ _ _ then refl c.push_str-2.new.self.items c.in_ok-push_str-2.ensures.ok in
    let listed = goes_called _ _ _ spaced refl c.in_ok-stream_list-2.ensures in
    goes_end _ listed c.push_str-3.new.self.items c.in_ok-push_str-3.ensures.ok
