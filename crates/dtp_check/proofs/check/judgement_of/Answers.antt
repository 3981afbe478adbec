use Rattle.std.proofs.Common.{◌≡◌, subst, refl, List, ℕ}
use Rattle.dtp_check.specs.Judged.{ScriptPart}
use Rattle.dtp_check.specs.code.Parts.{IsReadable}
use Rattle.dtp_check.proofs.Telling.{readable_by, stands, found_refusal, comes_with, judged_outcome}
use Rattle.dtp_check.proofs.check.judgement_of.Goals as goal

pub judge_script-requires : goal.judge_script-requires
judge_script-requires c =
    let same : c.new-lexer.result.bytes ≡ c.args.bytes.now = rw c.new-lexer.ensures refl in
    let readable : IsReadable c.in_ok-part.part.end = readable_by c.in_ok-part.part.end c.in_default.not-Unread in
    let behind = stands c.args.bytes.now c.new-lexer.result.bytes c.read_part.new.lexer.bytes c.read_part.new.lexer.place c.in_ok-part.part.end _ same c.in_ok-part.ensures.bytes readable (c.in_ok-behind.ensures readable) _ c.in-Opened.is in
    behind.0

pub returns-in_ok-judgement-in-Opened : goal.returns-in_ok-judgement-in-Opened
returns-in_ok-judgement-in-Opened c =
    let bytes = c.args.bytes.now in
    let same : c.new-lexer.result.bytes ≡ bytes = rw c.new-lexer.ensures refl in
    let end = c.in_ok-part.part.end in
    let place = c.read_part.new.lexer.place in
    let readable : IsReadable end = readable_by end c.in_default.not-Unread in
    let p = c.in_ok-part.ensures.part in
    let script = subst (λ (b : List ℕ). ScriptPart b 0 p.0 end place) same p.1 in
    let behind = stands bytes c.new-lexer.result.bytes c.read_part.new.lexer.bytes place end _ same c.in_ok-part.ensures.bytes readable (c.in_ok-behind.ensures readable) _ c.in-Opened.is in
    let by = c.in_ok-judgement-in-Opened.ensures in
    judged_outcome bytes p.0 place end by.outcome _ script readable (behind.1 by.outcome by.rest) (comes_with _ _ _ bytes _ by.outcome by.comes p.0 end place script readable)

pub returns-in-Refused : goal.returns-in-Refused
returns-in-Refused c =
    let same : c.new-lexer.result.bytes ≡ c.args.bytes.now = rw c.new-lexer.ensures refl in
    let readable : IsReadable c.in_ok-part.part.end = readable_by c.in_ok-part.part.end c.in_default.not-Unread in
    let p = c.in_ok-part.ensures.part in
    found_refusal c.args.bytes.now c.new-lexer.result.bytes c.read_part.new.lexer.bytes c.read_part.new.lexer.place c.in_ok-part.part.end _ same c.in_ok-part.ensures.bytes readable (c.in_ok-behind.ensures readable) c.in-Refused.why p.0 p.1 c.in-Refused.is
