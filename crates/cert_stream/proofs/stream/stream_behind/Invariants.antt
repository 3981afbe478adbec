use Rattle.std.proofs.Common.{map, drop}
use Rattle.smt_sexpr.specs.Printing.{text_behind}
use Rattle.smt_sexpr.specs.Shapes.{items_of}
use Rattle.cert_stream.proofs.Pieces.{Goes}
use Rattle.cert_stream.proofs.stream.stream_behind.Given as goal

abbrev pub invariant-loop-item : goal.invariant-loop-item
invariant-loop-item g l =
    let sexpr = g.T.Part.sexpr in
    let sink = g.K.Sink in
    Goes (text_behind (items_of (map sexpr l.items))) (text_behind (items_of (map sexpr (drop l.item-index l.items)))) l.fn.text.items l.text.items
    (sink.holds l.fn.sink) (sink.holds l.sink) (sink.faults l.fn.sink) (sink.faults l.sink)
