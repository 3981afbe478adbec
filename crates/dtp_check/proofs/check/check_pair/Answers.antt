use Rattle.std.proofs.Common.{◌∙◌}
use Rattle.dtp_entry.proofs.Written.{on_err}
use Rattle.dtp_check.proofs.Telling.{nothing_written, line_cut}
use Rattle.dtp_check.proofs.check.check_pair.Goals as goal

pub returns-in_err-line-clause-part : goal.returns-in_err-line-clause-part
returns-in_err-line-clause-part g c = on_err _ _ (nothing_written c.args.bytes.now (g.K.Sink.holds c.args.sink.now))

pub returns-in_err-write_text-clause-part : goal.returns-in_err-write_text-clause-part
returns-in_err-write_text-clause-part g c =
    on_err _ _ (line_cut c.args.bytes.now _ (g.K.Sink.holds c.args.sink.now) (g.K.Sink.holds c.write_text.new.sink) c.in_ok-judgement.judgement c.in_ok-judgement.ensures (c.deref.ensures.value ∙ c.in_ok-line.ensures) c.in_err-write_text.ensures.err)
