use Rattle.std.proofs.Common.{◌≡◌, ◌∙◌, subst, sym, refl, List, ℕ}
use Rattle.dtp_check.specs.declared.judgement.Judgement.TheVariants.{Accepted}
use Rattle.cert_read.specs.Certificates.{CertificateOutcome}
use Rattle.dtp_check.specs.Judged.{ScriptPart, CertificateBehind}
use Rattle.dtp_check.specs.code.Parts.{IsReadable}
use Rattle.dtp_check.proofs.Telling.{readable_by, stands, found_refusal, comes_with, judged_outcome}
use Rattle.dtp_convert.proofs.Examining.{certificate_apart, accepted_entries}
use Rattle.dtp_convert.proofs.Writing.{all_converted, all_stay, converted}
use Rattle.dtp_convert.proofs.convert.examine.Goals as goal

pub judge_script-requires : goal.judge_script-requires
judge_script-requires c =
    let same : c.new-lexer.result.bytes ≡ c.args.bytes.now = rw c.new-lexer.ensures refl in
    let readable : IsReadable c.in_ok-part.part.end = readable_by c.in_ok-part.part.end c.in_default.not-Unread in
    let behind = stands c.args.bytes.now c.new-lexer.result.bytes c.read_part.new.lexer.bytes c.read_part.new.lexer.place c.in_ok-part.part.end _ same c.in_ok-part.ensures.bytes readable (c.in_ok-behind.ensures readable) _ c.in-Opened.is in
    behind.0

pub returns-in-Accepted : goal.returns-in-Accepted
returns-in-Accepted c =
    let bytes = c.args.bytes.now in
    let same : c.new-lexer.result.bytes ≡ bytes = rw c.new-lexer.ensures refl in
    let end = c.in_ok-part.part.end in
    let place = c.read_part.new.lexer.place in
    let readable : IsReadable end = readable_by end c.in_default.not-Unread in
    let p = c.in_ok-part.ensures.part in
    let script = subst (λ (b : List ℕ). ScriptPart b 0 p.0 end place) same p.1 in
    let behind = stands bytes c.new-lexer.result.bytes c.read_part.new.lexer.bytes place end _ same c.in_ok-part.ensures.bytes readable (c.in_ok-behind.ensures readable) _ c.in-Opened.is in
    let by = c.in_ok-judgement-in-Opened.ensures in
    let comes = accepted_entries _ _ _ bytes _ by.outcome by.comes c.in-Accepted.is in
    let turns = comes.come p.0 end place script readable in (
      judged_outcome bytes p.0 place end by.outcome Accepted script readable (behind.1 by.outcome by.rest) (sym c.in-Accepted.is ∙ comes_with _ _ _ bytes _ by.outcome by.comes p.0 end place script readable),
      converted bytes end place p.0 comes.version comes.entries c.judge_script.new.keeps.entries.items script
          (subst (λ (o : CertificateOutcome). CertificateBehind bytes end place o) comes.is (behind.1 by.outcome by.rest))
          (all_converted c.new-converting.result c.judge_script.new.keeps p.0 comes.entries c.new-converting.ensures (turns.kept c.in-Accepted.is))
          (all_stay c.new-converting.result c.judge_script.new.keeps p.0 comes.entries c.new-converting.ensures (turns.kept c.in-Accepted.is)),
    )

pub returns-in_default-judgement : goal.returns-in_default-judgement
returns-in_default-judgement c =
    let bytes = c.args.bytes.now in
    let same : c.new-lexer.result.bytes ≡ bytes = rw c.new-lexer.ensures refl in
    let end = c.in_ok-part.part.end in
    let place = c.read_part.new.lexer.place in
    let readable : IsReadable end = readable_by end c.in_default.not-Unread in
    let p = c.in_ok-part.ensures.part in
    let script = subst (λ (b : List ℕ). ScriptPart b 0 p.0 end place) same p.1 in
    let behind = stands bytes c.new-lexer.result.bytes c.read_part.new.lexer.bytes place end _ same c.in_ok-part.ensures.bytes readable (c.in_ok-behind.ensures readable) _ c.in-Opened.is in
    let by = c.in_ok-judgement-in-Opened.ensures in (
      judged_outcome bytes p.0 place end by.outcome _ script readable (behind.1 by.outcome by.rest) (comes_with _ _ _ bytes _ by.outcome by.comes p.0 end place script readable),
      c.in_default-judgement.not-Accepted,
    )

pub returns-in-Refused : goal.returns-in-Refused
returns-in-Refused c =
    let bytes = c.args.bytes.now in
    let same : c.new-lexer.result.bytes ≡ bytes = rw c.new-lexer.ensures refl in
    let end = c.in_ok-part.part.end in
    let readable : IsReadable end = readable_by end c.in_default.not-Unread in
    let p = c.in_ok-part.ensures.part in (
      found_refusal bytes c.new-lexer.result.bytes c.read_part.new.lexer.bytes c.read_part.new.lexer.place end _ same c.in_ok-part.ensures.bytes readable (c.in_ok-behind.ensures readable) c.in-Refused.why p.0 p.1 c.in-Refused.is,
      certificate_apart c.in-Refused.why,
    )
