use Rattle.std.proofs.Common.{◌∙◌, ◌++◌, ap, Err, ℕ, List, string_bytes}
use Rattle.std.proofs.lemmas.Result.{err_from_is_err_and}
use Rattle.dtp_bench.specs.Lines.{verdict_line, accepted_line}
use Rattle.dtp_bench.specs.code.Outcomes.{lines_text}
use Rattle.dtp_bench.proofs.Writing.{wrote_nothing, wrote_more, wrote_part, wrote_last}
use Rattle.dtp_bench.proofs.run.write_lines.Goals as goal

pub returns-in_err-write_text : goal.returns-in_err-write_text
returns-in_err-write_text g c =
    let l = c.args.lines.now in
    let text : List ℕ = lines_text l in
    let w0 = wrote_nothing text (g.K.Sink.holds c.args.sink.now) (g.K.Sink.faults c.args.sink.now) in
    let p = err_from_is_err_and c.from_residual.result c.from_residual.ensures.1 in
    let told = c.in_err-write_text.ensures in
    wrote_part text (g.K.Sink.holds c.args.sink.now) (g.K.Sink.holds c.args.sink.now) (g.K.Sink.holds c.write_text.new.sink) (g.K.Sink.faults c.args.sink.now) (g.K.Sink.faults c.args.sink.now) (g.K.Sink.faults c.write_text.new.sink) (string_bytes l.plan) (string_bytes l.names ++ (string_bytes l.clauses ++ (verdict_line l.verdict ++ (accepted_line)))) c.as_bytes.result.now _ _ w0 c.as_bytes.ensures.value told.err told.cause told.fault told.later (p.1 ∙ ap Err p.2)

pub returns-in_err-write_text-2 : goal.returns-in_err-write_text-2
returns-in_err-write_text-2 g c =
    let l = c.args.lines.now in
    let text : List ℕ = lines_text l in
    let w0 = wrote_nothing text (g.K.Sink.holds c.args.sink.now) (g.K.Sink.faults c.args.sink.now) in
    let w1 = wrote_more text (g.K.Sink.holds c.args.sink.now) (g.K.Sink.holds c.args.sink.now) (g.K.Sink.holds c.write_text.new.sink) (g.K.Sink.faults c.args.sink.now) (g.K.Sink.faults c.args.sink.now) (g.K.Sink.faults c.write_text.new.sink) (string_bytes l.plan) (string_bytes l.names ++ (string_bytes l.clauses ++ (verdict_line l.verdict ++ (accepted_line)))) c.as_bytes.result.now w0 c.as_bytes.ensures.value c.in_ok-write_text.ensures.ok c.in_ok-write_text.ensures.quiet in
    let p = err_from_is_err_and c.from_residual-in_err-write_text-2.result c.from_residual-in_err-write_text-2.ensures.1 in
    let told = c.in_err-write_text-2.ensures in
    wrote_part text (g.K.Sink.holds c.args.sink.now) (g.K.Sink.holds c.write_text.new.sink) (g.K.Sink.holds c.write_text-2.new.sink) (g.K.Sink.faults c.args.sink.now) (g.K.Sink.faults c.write_text.new.sink) (g.K.Sink.faults c.write_text-2.new.sink) (string_bytes l.names) (string_bytes l.clauses ++ (verdict_line l.verdict ++ (accepted_line))) c.as_bytes-2.result.now _ _ w1 c.as_bytes-2.ensures.value told.err told.cause told.fault told.later (p.1 ∙ ap Err p.2)

pub returns-in_err-write_text-3 : goal.returns-in_err-write_text-3
returns-in_err-write_text-3 g c =
    let l = c.args.lines.now in
    let text : List ℕ = lines_text l in
    let w0 = wrote_nothing text (g.K.Sink.holds c.args.sink.now) (g.K.Sink.faults c.args.sink.now) in
    let w1 = wrote_more text (g.K.Sink.holds c.args.sink.now) (g.K.Sink.holds c.args.sink.now) (g.K.Sink.holds c.write_text.new.sink) (g.K.Sink.faults c.args.sink.now) (g.K.Sink.faults c.args.sink.now) (g.K.Sink.faults c.write_text.new.sink) (string_bytes l.plan) (string_bytes l.names ++ (string_bytes l.clauses ++ (verdict_line l.verdict ++ (accepted_line)))) c.as_bytes.result.now w0 c.as_bytes.ensures.value c.in_ok-write_text.ensures.ok c.in_ok-write_text.ensures.quiet in
    let w2 = wrote_more text (g.K.Sink.holds c.args.sink.now) (g.K.Sink.holds c.write_text.new.sink) (g.K.Sink.holds c.write_text-2.new.sink) (g.K.Sink.faults c.args.sink.now) (g.K.Sink.faults c.write_text.new.sink) (g.K.Sink.faults c.write_text-2.new.sink) (string_bytes l.names) (string_bytes l.clauses ++ (verdict_line l.verdict ++ (accepted_line))) c.as_bytes-2.result.now w1 c.as_bytes-2.ensures.value c.in_ok-write_text-2.ensures.ok c.in_ok-write_text-2.ensures.quiet in
    let p = err_from_is_err_and c.from_residual-in_err-write_text-3.result c.from_residual-in_err-write_text-3.ensures.1 in
    let told = c.in_err-write_text-3.ensures in
    wrote_part text (g.K.Sink.holds c.args.sink.now) (g.K.Sink.holds c.write_text-2.new.sink) (g.K.Sink.holds c.write_text-3.new.sink) (g.K.Sink.faults c.args.sink.now) (g.K.Sink.faults c.write_text-2.new.sink) (g.K.Sink.faults c.write_text-3.new.sink) (string_bytes l.clauses) (verdict_line l.verdict ++ (accepted_line)) c.as_bytes-3.result.now _ _ w2 c.as_bytes-3.ensures.value told.err told.cause told.fault told.later (p.1 ∙ ap Err p.2)

pub returns-in_err-write_text-4 : goal.returns-in_err-write_text-4
returns-in_err-write_text-4 g c =
    let l = c.args.lines.now in
    let text : List ℕ = lines_text l in
    let w0 = wrote_nothing text (g.K.Sink.holds c.args.sink.now) (g.K.Sink.faults c.args.sink.now) in
    let w1 = wrote_more text (g.K.Sink.holds c.args.sink.now) (g.K.Sink.holds c.args.sink.now) (g.K.Sink.holds c.write_text.new.sink) (g.K.Sink.faults c.args.sink.now) (g.K.Sink.faults c.args.sink.now) (g.K.Sink.faults c.write_text.new.sink) (string_bytes l.plan) (string_bytes l.names ++ (string_bytes l.clauses ++ (verdict_line l.verdict ++ (accepted_line)))) c.as_bytes.result.now w0 c.as_bytes.ensures.value c.in_ok-write_text.ensures.ok c.in_ok-write_text.ensures.quiet in
    let w2 = wrote_more text (g.K.Sink.holds c.args.sink.now) (g.K.Sink.holds c.write_text.new.sink) (g.K.Sink.holds c.write_text-2.new.sink) (g.K.Sink.faults c.args.sink.now) (g.K.Sink.faults c.write_text.new.sink) (g.K.Sink.faults c.write_text-2.new.sink) (string_bytes l.names) (string_bytes l.clauses ++ (verdict_line l.verdict ++ (accepted_line))) c.as_bytes-2.result.now w1 c.as_bytes-2.ensures.value c.in_ok-write_text-2.ensures.ok c.in_ok-write_text-2.ensures.quiet in
    let w3 = wrote_more text (g.K.Sink.holds c.args.sink.now) (g.K.Sink.holds c.write_text-2.new.sink) (g.K.Sink.holds c.write_text-3.new.sink) (g.K.Sink.faults c.args.sink.now) (g.K.Sink.faults c.write_text-2.new.sink) (g.K.Sink.faults c.write_text-3.new.sink) (string_bytes l.clauses) (verdict_line l.verdict ++ (accepted_line)) c.as_bytes-3.result.now w2 c.as_bytes-3.ensures.value c.in_ok-write_text-3.ensures.ok c.in_ok-write_text-3.ensures.quiet in
    let p = err_from_is_err_and c.from_residual-in_err-write_text-4.result c.from_residual-in_err-write_text-4.ensures.1 in
    let told = c.in_err-write_text-4.ensures in
    wrote_part text (g.K.Sink.holds c.args.sink.now) (g.K.Sink.holds c.write_text-3.new.sink) (g.K.Sink.holds c.write_text-4.new.sink) (g.K.Sink.faults c.args.sink.now) (g.K.Sink.faults c.write_text-3.new.sink) (g.K.Sink.faults c.write_text-4.new.sink) (verdict_line l.verdict) (accepted_line) c.verdict_line.result.now _ _ w3 c.verdict_line.ensures told.err told.cause told.fault told.later (p.1 ∙ ap Err p.2)

pub returns : goal.returns
returns g c =
    let l = c.args.lines.now in
    let text : List ℕ = lines_text l in
    let w0 = wrote_nothing text (g.K.Sink.holds c.args.sink.now) (g.K.Sink.faults c.args.sink.now) in
    let w1 = wrote_more text (g.K.Sink.holds c.args.sink.now) (g.K.Sink.holds c.args.sink.now) (g.K.Sink.holds c.write_text.new.sink) (g.K.Sink.faults c.args.sink.now) (g.K.Sink.faults c.args.sink.now) (g.K.Sink.faults c.write_text.new.sink) (string_bytes l.plan) (string_bytes l.names ++ (string_bytes l.clauses ++ (verdict_line l.verdict ++ (accepted_line)))) c.as_bytes.result.now w0 c.as_bytes.ensures.value c.in_ok-write_text.ensures.ok c.in_ok-write_text.ensures.quiet in
    let w2 = wrote_more text (g.K.Sink.holds c.args.sink.now) (g.K.Sink.holds c.write_text.new.sink) (g.K.Sink.holds c.write_text-2.new.sink) (g.K.Sink.faults c.args.sink.now) (g.K.Sink.faults c.write_text.new.sink) (g.K.Sink.faults c.write_text-2.new.sink) (string_bytes l.names) (string_bytes l.clauses ++ (verdict_line l.verdict ++ (accepted_line))) c.as_bytes-2.result.now w1 c.as_bytes-2.ensures.value c.in_ok-write_text-2.ensures.ok c.in_ok-write_text-2.ensures.quiet in
    let w3 = wrote_more text (g.K.Sink.holds c.args.sink.now) (g.K.Sink.holds c.write_text-2.new.sink) (g.K.Sink.holds c.write_text-3.new.sink) (g.K.Sink.faults c.args.sink.now) (g.K.Sink.faults c.write_text-2.new.sink) (g.K.Sink.faults c.write_text-3.new.sink) (string_bytes l.clauses) (verdict_line l.verdict ++ (accepted_line)) c.as_bytes-3.result.now w2 c.as_bytes-3.ensures.value c.in_ok-write_text-3.ensures.ok c.in_ok-write_text-3.ensures.quiet in
    let w4 = wrote_more text (g.K.Sink.holds c.args.sink.now) (g.K.Sink.holds c.write_text-3.new.sink) (g.K.Sink.holds c.write_text-4.new.sink) (g.K.Sink.faults c.args.sink.now) (g.K.Sink.faults c.write_text-3.new.sink) (g.K.Sink.faults c.write_text-4.new.sink) (verdict_line l.verdict) (accepted_line) c.verdict_line.result.now w3 c.verdict_line.ensures c.in_ok-write_text-4.ensures.ok c.in_ok-write_text-4.ensures.quiet in
    let e = c.write_text-5.ensures in
    wrote_last text (g.K.Sink.holds c.args.sink.now) (g.K.Sink.holds c.write_text-4.new.sink) (g.K.Sink.holds c.write_text-5.new.sink) (g.K.Sink.faults c.args.sink.now) (g.K.Sink.faults c.write_text-4.new.sink) (g.K.Sink.faults c.write_text-5.new.sink) (accepted_line) c.accepted_line.result.now c.write_text-5.result w4 c.accepted_line.ensures e.ok e.err e.cause e.fault e.quiet e.later
