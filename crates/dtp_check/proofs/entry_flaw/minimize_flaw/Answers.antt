use Rattle.std.proofs.Common.{rules, sym, subst, ◌≡◌, ◌++◌, ◌∷◌, [], ℤ, to_z, of_z}
use Rattle.std.specs.Int.{w128}
use Rattle.cert_text.specs.declared.entry.FileEntry.{FileEntry as Shown}
use Rattle.cert_text.specs.declared.entry.FileEntry.TheVariants.{Best}
use Rattle.smt_script.specs.declared.state.Question.TheVariants.{Minimize}
use Rattle.dtp_check.specs.Judged.{placed}
use Rattle.dtp_check.specs.code.Earlier.{Holds}
use Rattle.dtp_check.proofs.entry_flaw.minimize_flaw.Goals as goal

pub returns-in_ok-flaw-in-Best-clause-held : goal.returns-in_ok-flaw-in-Best-clause-held
returns-in_ok-flaw-in-Best-clause-held c = λ none s x before asked held.
    let read : to_z w128 (of_z w128 c.in-Best.m) ≡ c.in-Best.m = search rules in
    let here = subst (λ (m : ℤ). Holds c.best_flaw.new.earlier (before ++ placed (Minimize c.args.objective) s.context (Best m c.in-Best.values c.in-Best.items) ∷ [])) read (c.in_ok-flaw-in-Best.ensures.held none s x before asked held) in
    subst (λ (entry : Shown). Holds c.best_flaw.new.earlier (before ++ placed (Minimize c.args.objective) s.context entry ∷ [])) (sym c.in-Best.is) here
