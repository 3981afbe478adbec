use Rattle.std.proofs.Common.{sym, subst, ◌++◌, ◌∷◌, []}
use Rattle.smt_script.specs.declared.state.Question.{Question}
use Rattle.dtp_check.specs.Judged.{placed}
use Rattle.dtp_check.specs.code.Asked.{IsAsked}
use Rattle.dtp_check.specs.code.Earlier.{Holds}
use Rattle.dtp_check.proofs.entry_flaw.entry_flaw.Goals as goal

pub returns-in_ok-flaw-in-CheckSat-clause-held : goal.returns-in_ok-flaw-in-CheckSat-clause-held
returns-in_ok-flaw-in-CheckSat-clause-held c = λ none s x before asked held.
    let there = subst (λ (q : Question). IsAsked c.args.state.now q x s) c.in-CheckSat.is asked in
    subst (λ (q : Question). Holds c.check_sat_flaw.new.earlier (before ++ placed q s.context c.args.entry.now ∷ [])) (sym c.in-CheckSat.is) (c.in_ok-flaw-in-CheckSat.ensures.held none s x before there held)

pub returns-in_ok-flaw-in-Minimize-clause-held : goal.returns-in_ok-flaw-in-Minimize-clause-held
returns-in_ok-flaw-in-Minimize-clause-held c = λ none s x before asked held.
    let there = subst (λ (q : Question). IsAsked c.args.state.now q x s) c.in-Minimize.is asked in
    subst (λ (q : Question). Holds c.minimize_flaw.new.earlier (before ++ placed q s.context c.args.entry.now ∷ [])) (sym c.in-Minimize.is) (c.in_ok-flaw-in-Minimize.ensures.held none s x before there held)
