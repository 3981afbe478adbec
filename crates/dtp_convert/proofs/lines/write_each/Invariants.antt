use Rattle.std.proofs.Common.{drop, []}
use Rattle.cert_stream.specs.code.Streams.{entry_lines}
use Rattle.cert_stream.proofs.Pieces.{Goes}
use Rattle.dtp_convert.proofs.lines.write_each.Given as goal

abbrev pub invariant-loop-entry : goal.invariant-loop-entry
invariant-loop-entry g l =
    let sink = g.K.Sink in
    Goes (entry_lines l.entries) (entry_lines (drop l.entry-index l.entries)) [] [] (sink.holds l.fn.sink) (sink.holds l.sink) (sink.faults l.fn.sink) (sink.faults l.sink)
