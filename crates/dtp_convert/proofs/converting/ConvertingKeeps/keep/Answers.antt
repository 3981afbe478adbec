use Rattle.std.proofs.Common.{refl, sym, subst, Result}
use Rattle.std.specs.Prelude.{IsOk}
use Rattle.cert_text.specs.declared.entry.Entry.{Entry}
use Rattle.dtp_check.specs.declared.judgement.EntryFlaw.{EntryFlaw}
use Rattle.dtp_convert.proofs.Deciding.{added, without_flaw, with_flaw}
use Rattle.dtp_convert.proofs.converting.ConvertingKeeps.keep.Goals as goal

pub returns-in_ok-push-in-Ok-clause-kept : goal.returns-in_ok-push-in-Ok-clause-kept
returns-in_ok-push-in-Ok-clause-kept c = λ none s x before asked held.
    added before c.args.question x s.context c.args.entry.now c.in_ok-shown.field-0 c.in-Ok.shown c.args.self.now.entries.items c.push.new.self.items c.in-Ok.is (c.in_ok-shown.ensures.shown s x before asked held) c.in_ok-push-in-Ok.ensures.items

pub returns-in_ok-push-in-Ok-clause-flaw : goal.returns-in_ok-push-in-Ok-clause-flaw
returns-in_ok-push-in-Ok-clause-flaw c = λ s x before asked held.
    without_flaw before c.args.question x s.context c.args.entry.now c.in_ok-shown.field-0 (c.in_ok-shown.ensures.shown s x before asked held) c.in-Ok.shown c.in-Ok.is

pub returns-in_ok-push-in-Ok-clause-held : goal.returns-in_ok-push-in-Ok-clause-held
returns-in_ok-push-in-Ok-clause-held c = λ none s x before asked held.
    c.in_ok-shown.ensures.held (subst (λ (r : Result Entry EntryFlaw). IsOk r) (sym c.in-Ok.is) refl) s x before asked held

pub returns-in-Err-clause-flaw : goal.returns-in-Err-clause-flaw
returns-in-Err-clause-flaw c = λ s x before asked held.
    with_flaw before c.args.question x s.context c.args.entry.now c.in_ok-shown.field-0 (c.in_ok-shown.ensures.shown s x before asked held) c.in-Err.flaw c.in-Err.is
