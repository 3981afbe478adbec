use Rattle.std.proofs.Common.{◌≡◌, ◌∙◌, sym, subst, List, ℕ, inr}
use Rattle.cert_text.specs.declared.entry.Version.TheVariants.{One}
use Rattle.cert_text.specs.declared.entry.Entry.{Entry}
use Rattle.cert_stream.specs.code.Streams.{whole_text}
use Rattle.dtp_entry.specs.Written.{Writes, IsPartOf}
use Rattle.dtp_entry.proofs.Written.{on_err}
use Rattle.dtp_check.specs.declared.check.Checked.TheVariants as checked
use Rattle.dtp_convert.specs.declared.convert.Examined.{Examined}
use Rattle.dtp_convert.specs.Converted.{IsConversion, IsConversionPart}
use Rattle.dtp_convert.specs.code.Examining.{IsExamined}
use Rattle.dtp_convert.proofs.Examining.{failed, conversion_cut}
use Rattle.dtp_convert.proofs.convert.convert_pair.Goals as goal

pub returns-in_err-write_lines-in-Converted-clause-part : goal.returns-in_err-write_lines-in-Converted-clause-part
returns-in_err-write_lines-in-Converted-clause-part g c =
    let bytes = c.args.bytes.now in
    let before = g.K.Sink.holds c.args.sink.now in
    let now = g.K.Sink.holds c.write_lines.new.sink in
    let text = whole_text One c.deref.result.now in
    let found = subst (λ (e : Examined). IsExamined bytes e) c.in-Converted.is c.in_ok-entries.ensures in
    let h : IsConversion bytes text checked.Accepted = subst (λ (es : List Entry). IsConversion bytes (whole_text One es) checked.Accepted) (sym c.deref.ensures.value) found in
    let w = failed _ _ (Writes before now (IsPartOf (λ t. t ≡ text))) c.in_err-write_lines-in-Converted.was c.write_lines.ensures.part in
    let part : Writes before now (IsConversionPart bytes) = (w.0, w.1, conversion_cut bytes text checked.Accepted h w.0 w.2) in
    on_err _ _ part

pub returns-in_err-write_text-in-Refused-clause-part : goal.returns-in_err-write_text-in-Refused-clause-part
returns-in_err-write_text-in-Refused-clause-part g c =
    let bytes = c.args.bytes.now in
    let found = subst (λ (e : Examined). IsExamined bytes e) c.in-Refused.is c.in_ok-entries.ensures in
    let w = c.in_err-write_text-in-Refused.ensures.err in
    let part : Writes (g.K.Sink.holds c.args.sink.now) (g.K.Sink.holds c.write_text.new.sink) (IsConversionPart bytes) = (
      w.0,
      w.1,
      inr (
        c.deref-in-Refused.result.now,
        checked.NotAccepted,
        (c.in-Refused.judgement, found.0, found.1, c.deref-in-Refused.ensures.value ∙ c.in_ok-line-in-Refused.ensures),
        w.2,
      ),
    ) in
    on_err _ _ part
