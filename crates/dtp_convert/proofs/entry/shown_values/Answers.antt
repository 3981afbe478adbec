use Rattle.std.proofs.Common.{◌≡◌, ◌∙◌, sym, subst, None, Ok}
use Rattle.cert_text.specs.declared.entry.FileEntry.{FileEntry}
use Rattle.cert_text.specs.declared.entry.Entry.TheVariants.{Sat}
use Rattle.dtp_check.specs.Judged.{entry_flaw}
use Rattle.dtp_convert.specs.code.Shown.{IsShown}
use Rattle.dtp_convert.proofs.Deciding.{values_shown}
use Rattle.dtp_convert.proofs.entry.shown_values.Goals as goal

pub returns-in-Some-clause-shown : goal.returns-in-Some-clause-shown
returns-in-Some-clause-shown c = λ s x before asked held. sym (c.in_ok-flaw.ensures.flaw s x before asked held) ∙ c.in-Some.is

pub returns-in_ok-shown-in-None-clause-shown : goal.returns-in_ok-shown-in-None-clause-shown
returns-in_ok-shown-in-None-clause-shown c = λ s x before asked held.
    let none : entry_flaw before c.args.question x s.context c.args.entry.now ≡ None = sym (c.in_ok-flaw.ensures.flaw s x before asked held) ∙ c.in-None.is in
    let flaw = subst (λ (entry : FileEntry). entry_flaw before c.args.question x s.context entry ≡ None) c.requires.entry none in
    subst (λ (entry : FileEntry). IsShown before c.args.question x s.context entry (Ok (Sat c.in_ok-shown-in-None.shown))) (sym c.requires.entry)
    (values_shown c.right_is_so.ensures c.args.state.now c.args.question x s asked before c.args.values.now c.in_ok-shown-in-None.shown flaw c.in_ok-shown-in-None.ensures.same c.in_ok-shown-in-None.ensures.within)

pub returns-in_ok-shown-in-None-clause-held : goal.returns-in_ok-shown-in-None-clause-held
returns-in_ok-shown-in-None-clause-held c = λ ok s x before asked held. c.in_ok-flaw.ensures.held c.in-None.is s x before asked held
