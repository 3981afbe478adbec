use Rattle.std.proofs.Common.{refl, ap, List, map}
use Rattle.std.proofs.lemmas.Result.{err_from_is_err_and}
use Rattle.smt_sexpr.specs.Printing.{text_of}
use Rattle.smt_sexpr.specs.Shapes.{list_of}
use Rattle.cert_stream.proofs.Pieces.{goes_start, goes_pushed, goes_last, goes_memory, streams_as}
use Rattle.cert_stream.proofs.stream.stream_list.Goals as goal

pub returns-in_err-begin_list-in-Some : goal.returns-in_err-begin_list-in-Some
returns-in_err-begin_list-in-Some g c =
    let p = err_from_is_err_and c.from_residual-in_err-begin_list-in-Some.result c.from_residual-in_err-begin_list-in-Some.ensures.1 in
    streams_as _ _ p.1 (goes_memory _ _ p.0 (goes_start _ c.args.text.now.items _ _) p.2)

pub returns-in_ok-begin_list-in-Some : goal.returns-in_ok-begin_list-in-Some
returns-in_ok-begin_list-in-Some g c =
    let whole = ap (λ (xs : List g.row.T.Denot). text_of (list_of (map g.T.Part.sexpr xs))) c.in-Some.ensures.cases.0 in
    let at = goes_pushed _ _ _ (goes_start _ c.args.text.now.items _ _) whole c.begin_list.new.text.items c.in_ok-begin_list-in-Some.ensures in
    goes_last _ _ _ at refl c.stream_behind.ensures
