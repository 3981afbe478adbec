use Rattle.std.proofs.Common.{[], refl, ◌+◌, ◌∷◌, ◌++◌, List, ℕ, drop, map, sym, ap, ◌∙◌, Err}
use Rattle.std.proofs.lemmas.List.{at_drop_more}
use Rattle.std.proofs.lemmas.Result.{err_from_is_err_and}
use Rattle.smt_sexpr.specs.Printing.{text_of, text_behind}
use Rattle.smt_sexpr.specs.Shapes.{items_of}
use Rattle.cert_stream.proofs.Pieces.{goes_pushed, goes_called, goes_memory, goes_fails, streams_as}
use Rattle.cert_stream.proofs.stream.stream_behind.Goals as goal

pub returns-in_err-write_next : goal.returns-in_err-write_next
returns-in_err-write_next g c =
    let p = err_from_is_err_and c.from_residual.result c.from_residual.ensures.1 in
    streams_as _ _ p.1 (goes_memory _ _ p.0 c.loop-item.invariant p.2)

pub returns-in_err-settle : goal.returns-in_err-settle
returns-in_err-settle g c =
    let items = c.args.items.now in
    let i = c.loop-item.item-index in
    let behind : List g.row.T.Denot → List ℕ = λ xs. text_behind (items_of (map g.T.Part.sexpr xs)) in
    let next = at_drop_more behind items i c.item-item.result c.loop-item-test.true ∙ ap (λ (x : g.row.T.Denot). 32 ∷ (text_of (g.T.Part.sexpr x) ++ behind (drop (i + 1) items))) (sym c.item-item.is) in
    let piece : List ℕ = 32 ∷ text_of (g.T.Part.sexpr c.item-item.result) in
    let at = goes_pushed piece _ (behind (drop (i + 1) items)) c.loop-item.invariant next c.write_next.new.out.items c.in_ok-write_next.ensures.ok in
    let p = err_from_is_err_and c.from_residual-in_err-settle.result c.from_residual-in_err-settle.ensures.1 in
    streams_as _ _ (p.1 ∙ ap Err p.2) (goes_fails [] _ _ c.in_err-settle.field-0.0 at refl c.in_err-settle.ensures)

pub loop-item-preserved : goal.loop-item-preserved
loop-item-preserved g c =
    let items = c.args.items.now in
    let i = c.loop-item.item-index in
    let behind : List g.row.T.Denot → List ℕ = λ xs. text_behind (items_of (map g.T.Part.sexpr xs)) in
    let next = at_drop_more behind items i c.item-item.result c.loop-item-test.true ∙ ap (λ (x : g.row.T.Denot). 32 ∷ (text_of (g.T.Part.sexpr x) ++ behind (drop (i + 1) items))) (sym c.item-item.is) in
    let piece : List ℕ = 32 ∷ text_of (g.T.Part.sexpr c.item-item.result) in
    let at = goes_pushed piece _ (behind (drop (i + 1) items)) c.loop-item.invariant next c.write_next.new.out.items c.in_ok-write_next.ensures.ok in
    goes_called [] _ _ at refl c.in_ok-settle.ensures

pub returns-in_err-push_str : goal.returns-in_err-push_str
returns-in_err-push_str g c =
    let p = err_from_is_err_and c.from_residual-in_err-push_str.result c.from_residual-in_err-push_str.ensures.1 in
    streams_as _ _ p.1 (goes_memory _ _ p.0 c.loop-item.invariant p.2)
