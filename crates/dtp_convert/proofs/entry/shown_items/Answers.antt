use Rattle.std.proofs.Common.{refl, sym, subst, List, Result, Ok, Err}
use Rattle.std.specs.Prelude.{IsOk}
use Rattle.refute_tree.specs.declared.lemma.Lemma.{Lemma}
use Rattle.dtp_check.specs.declared.judgement.EntryFlaw.{EntryFlaw}
use Rattle.dtp_convert.specs.code.Shown.{AreItemsShown}
use Rattle.dtp_convert.proofs.Deciding.{items_over, held_over, items_shown}
use Rattle.dtp_convert.proofs.entry.shown_items.Goals as goal

pub returns-in-Ok-clause-shown : goal.returns-in-Ok-clause-shown
returns-in-Ok-clause-shown c = λ s x before asked held.
    let problem = c.in_ok-problem.problem in
    let e = c.in_ok-problem.ensures.problem s asked.stands in
    let found = subst (λ (r : Result (List Lemma) EntryFlaw). AreItemsShown before problem.points problem.clauses c.args.items.now r) c.in-Ok.is (c.in_ok-found.ensures.shown before held) in
    items_shown c.right_is_so.ensures c.args.state.now c.args.question x s asked before c.args.items.now c.in-Ok.lemmas (items_over before _ _ _ _ c.args.items.now (Ok c.in-Ok.lemmas) e.0 e.1 found)

pub returns-in-Ok-clause-held : goal.returns-in-Ok-clause-held
returns-in-Ok-clause-held c = λ ok s x before asked held.
    let problem = c.in_ok-problem.problem in
    let e = c.in_ok-problem.ensures.problem s asked.stands in
    held_over c.shown_lemmas.new.earlier before problem.points _ problem.clauses _ c.args.items.now e.0 e.1 (c.in_ok-found.ensures.held (subst (λ (r : Result (List Lemma) EntryFlaw). IsOk r) (sym c.in-Ok.is) refl) before held)

pub returns-in-Err-clause-shown : goal.returns-in-Err-clause-shown
returns-in-Err-clause-shown c = λ s x before asked held.
    let problem = c.in_ok-problem.problem in
    let e = c.in_ok-problem.ensures.problem s asked.stands in
    let found = subst (λ (r : Result (List Lemma) EntryFlaw). AreItemsShown before problem.points problem.clauses c.args.items.now r) c.in-Err.is (c.in_ok-found.ensures.shown before held) in
    items_over before _ _ _ _ c.args.items.now (Err c.in-Err.flaw) e.0 e.1 found
