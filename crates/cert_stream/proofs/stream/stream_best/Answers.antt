use Rattle.std.proofs.Common.{◌≡◌, refl, ap, ◌∙◌, map, Err, arith, to_z, of_z}
use Rattle.std.specs.Int.{w128}
use Rattle.std.proofs.lemmas.Int.{ints}
use Rattle.std.proofs.lemmas.Result.{err_from_is_err_and}
use Rattle.cert_stream.proofs.Pieces.{goes_start, goes_pushed, goes_called, goes_last, goes_memory, goes_fails, streams_as}
use Rattle.cert_stream.proofs.ObjectiveLines.{best_line}
use Rattle.cert_stream.proofs.stream.stream_best.Goals as goal

pub returns-in_err-begin_best : goal.returns-in_err-begin_best
returns-in_err-begin_best g c =
    let p = err_from_is_err_and c.from_residual.result c.from_residual.ensures.1 in
    streams_as _ _ p.1 (goes_memory _ _ p.0 (goes_start _ c.args.text.now.items _ _) p.2)

pub returns-in_err-stream_list : goal.returns-in_err-stream_list
returns-in_err-stream_list g c =
    let least : to_z w128 (of_z w128 c.args.least) ≡ c.args.least = omega (arith, ints) in
    let at = goes_pushed _ _ _ (goes_start _ c.args.text.now.items _ _) (best_line c.args.least c.args.values.now (map (λ x. g.T.Part.sexpr x) c.args.items.now)) c.begin_best.new.text.items (rw least at c.in_ok-begin_best.ensures) in
    let p = err_from_is_err_and c.from_residual-in_err-stream_list.result c.from_residual-in_err-stream_list.ensures.1 in
    streams_as _ _ (p.1 ∙ ap Err p.2) (goes_fails _ _ _ c.in_err-stream_list.field-0.0 at refl c.in_err-stream_list.ensures)

pub returns : goal.returns
returns g c =
    let least : to_z w128 (of_z w128 c.args.least) ≡ c.args.least = omega (arith, ints) in
    let at = goes_pushed _ _ _ (goes_start _ c.args.text.now.items _ _) (best_line c.args.least c.args.values.now (map (λ x. g.T.Part.sexpr x) c.args.items.now)) c.begin_best.new.text.items (rw least at c.in_ok-begin_best.ensures) in
    let then = goes_called _ _ _ at refl c.in_ok-stream_list.ensures in
    goes_last _ _ _ then refl c.stream_line.ensures
