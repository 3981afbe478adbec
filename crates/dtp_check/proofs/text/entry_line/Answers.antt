use Rattle.std.proofs.Common.{◌≡◌, ◌∙◌, sym, ap, subst, string_bytes, IfOk, List, ℕ}
use Rattle.dtp_check.specs.declared.judgement.EntryFlaw.{EntryFlaw}
use Rattle.dtp_check.specs.Texts.{step_line, entry_line}
use Rattle.dtp_check.proofs.Lines.{step_kind}
use Rattle.dtp_check.proofs.text.entry_line.Goals as goal

pub returns-in_default : goal.returns-in_default
returns-in_default c =
    let entry = c.args.entry in
    let flaw = c.in-Flawed.flaw in
    let line : step_line entry flaw.lemma flaw.step c.flaw_text.result.now ≡ entry_line entry c.args.flaw =
    ap (step_line entry flaw.lemma flaw.step) c.flaw_text.ensures
    ∙ step_kind entry flaw.lemma flaw.step flaw.kind c.in_default.not-LastLemmaNotEmpty
    ∙ ap (λ (f : EntryFlaw). entry_line entry f) (sym c.in-Flawed.is) in
    subst (λ (text : List ℕ). IfOk c.step_line.result (λ out. string_bytes out ≡ text)) line c.step_line.ensures
