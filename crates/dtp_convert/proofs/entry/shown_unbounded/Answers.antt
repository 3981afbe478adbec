use Rattle.std.proofs.Common.{◌≡◌, ◌∙◌, sym, subst, None, Ok}
use Rattle.cert_text.specs.declared.entry.FileEntry.{FileEntry}
use Rattle.dtp_check.specs.Judged.{entry_flaw}
use Rattle.dtp_convert.specs.code.Shown.{IsShown}
use Rattle.dtp_convert.proofs.Deciding.{set_shown}
use Rattle.dtp_convert.proofs.entry.shown_unbounded.Goals as goal

pub returns-in-Some-clause-shown : goal.returns-in-Some-clause-shown
returns-in-Some-clause-shown c = λ s x before asked held. sym (c.in_ok-flaw.ensures.flaw s x before asked held) ∙ c.in-Some.is

pub returns-in_ok-shown-in-None-clause-held : goal.returns-in_ok-shown-in-None-clause-held
returns-in_ok-shown-in-None-clause-held c = λ ok s x before asked held. c.in_ok-flaw.ensures.held c.in-None.is s x before asked held

pub returns-in_ok-shown-in-None-clause-shown : goal.returns-in_ok-shown-in-None-clause-shown
returns-in_ok-shown-in-None-clause-shown c = λ s x before asked held.
    let e = c.in_ok-problem-in-None.ensures.problem s asked.stands in
    let none : entry_flaw before c.args.question x s.context c.args.entry.now ≡ None = sym (c.in_ok-flaw.ensures.flaw s x before asked held) ∙ c.in-None.is in
    let flaw = subst (λ (entry : FileEntry). entry_flaw before c.args.question x s.context entry ≡ None) c.requires.entry none in
    subst (λ (entry : FileEntry). IsShown before c.args.question x s.context entry (Ok c.in_ok-shown-in-None.shown)) (sym c.requires.entry)
    (set_shown c.right_is_so.ensures c.args.state.now c.args.question x s asked before c.args.values.now c.args.set.now c.in_ok-shown-in-None.shown c.in_ok-problem-in-None.problem (record { points = e.0; clauses = e.1 }) c.in_ok-shown-in-None.ensures.within flaw c.in_ok-shown-in-None.ensures.same)
