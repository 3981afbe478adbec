use Rattle.std.proofs.Common.{◌≡◌, ◌++◌, ◌∷◌, [], sym, subst, arith, to_z, of_z}
use Rattle.std.specs.Int.{w128}
use Rattle.std.proofs.lemmas.Int.{ints}
use Rattle.cert_text.specs.declared.entry.FileEntry.{FileEntry}
use Rattle.smt_script.specs.declared.state.Question.{Question}
use Rattle.smt_script.specs.declared.state.Question.TheVariants.{Minimize}
use Rattle.dtp_check.specs.Judged.{placed}
use Rattle.dtp_check.specs.code.Asked.{IsAsked}
use Rattle.dtp_check.specs.code.Earlier.{Holds}
use Rattle.dtp_convert.proofs.entry.shown_entry.Goals as goal

pub returns-in_ok-found-in-Unsat-clause-held : goal.returns-in_ok-found-in-Unsat-clause-held
returns-in_ok-found-in-Unsat-clause-held c = λ ok s x before asked held.
    subst (λ (entry : FileEntry). Holds c.shown_items.new.earlier (before ++ placed c.args.question s.context entry ∷ [])) (sym c.in-Unsat.is) (c.in_ok-found-in-Unsat.ensures.held ok s x before asked held)

pub returns-in_ok-found-in-Minimize-clause-held : goal.returns-in_ok-found-in-Minimize-clause-held
returns-in_ok-found-in-Minimize-clause-held c = λ ok s x before asked held.
    let m : to_z w128 (of_z w128 c.in-Best.m) ≡ c.in-Best.m = omega (arith, ints) in
    let there = subst (λ (question : Question). IsAsked c.args.state.now question x s) c.in-Minimize.is asked in
    subst (λ (question : Question). Holds c.shown_best.new.earlier (before ++ placed question s.context c.args.entry.now ∷ [])) (sym c.in-Minimize.is)
    (subst (λ (entry : FileEntry). Holds c.shown_best.new.earlier (before ++ placed (Minimize c.in-Minimize.objective) s.context entry ∷ [])) (sym c.in-Best.is) (rw m at c.in_ok-found-in-Minimize.ensures.held ok s x before there held))
