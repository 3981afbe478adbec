use Rattle.std.proofs.Common.{◌≡◌, ◌++◌, ◌∷◌, [], refl, sym, subst, rules, arith, to_z, of_z, List, Result, ℤ}
use Rattle.std.specs.Int.{w128}
use Rattle.std.specs.Prelude.{IsOk}
use Rattle.std.proofs.lemmas.Int.{ints}
use Rattle.refute_tree.specs.declared.lemma.Lemma.{Lemma}
use Rattle.cert_text.specs.Limits.{WholeFits}
use Rattle.dtp_entry.specs.Entries.{points_of}
use Rattle.dtp_check.specs.declared.judgement.EntryFlaw.{EntryFlaw}
use Rattle.dtp_check.specs.Judged.{placed_items}
use Rattle.dtp_check.specs.code.Asked.{IsLeastFound, asked_clauses}
use Rattle.dtp_check.specs.code.Earlier.{Holds}
use Rattle.dtp_check.proofs.Judging.{suffices_items}
use Rattle.dtp_convert.specs.code.Shown.{AreItemsShown}
use Rattle.dtp_convert.proofs.Deciding.{least_flawed, best_flawed, best_shown}
use Rattle.dtp_convert.proofs.entry.shown_best.Goals as goal

pub returns-in-Err-clause-shown : goal.returns-in-Err-clause-shown
returns-in-Err-clause-shown c = λ s x before asked held.
    let o = c.args.objective in
    let m : to_z w128 (of_z w128 c.args.m) ≡ c.args.m = omega (arith, ints) in
    let found = subst (λ (r : Result ℤ EntryFlaw). IsLeastFound x o s.context c.args.m c.args.values.now r) c.in-Err.is (rw m at c.in_ok-difference.ensures s x asked) in
    least_flawed c.right_is_so.ensures c.args.state.now o x s asked before c.args.m c.args.values.now c.args.items.now c.in-Err.flaw found

pub shown_below-requires-clause-within : goal.shown_below-requires-clause-within
shown_below-requires-clause-within c =
    let o = c.args.objective in
    let m : to_z w128 (of_z w128 c.args.m) ≡ c.args.m = omega (arith, ints) in
    let a = c.requires.asked in
    let is : to_z w128 (of_z w128 c.in-Ok.difference) ≡ c.in-Ok.difference = omega (arith, ints) in
    let found = subst (λ (r : Result ℤ EntryFlaw). IsLeastFound a.1 o a.0.context c.args.m c.args.values.now r) c.in-Ok.is (rw m at c.in_ok-difference.ensures a.0 a.1 a.2) in
    rw is found.2

pub shown_below-requires-clause-suffices : goal.shown_below-requires-clause-suffices
shown_below-requires-clause-suffices c = suffices_items c.args.earlier.now c.args.m c.args.values.now c.args.items.now c.requires.suffices

pub returns-in-Ok-2-clause-shown : goal.returns-in-Ok-2-clause-shown
returns-in-Ok-2-clause-shown c = λ s x before asked held.
    let o = c.args.objective in
    let m : to_z w128 (of_z w128 c.args.m) ≡ c.args.m = omega (arith, ints) in
    let d = c.in-Ok.difference in
    let is : to_z w128 (of_z w128 d) ≡ d = omega (arith, ints) in
    let found = subst (λ (r : Result ℤ EntryFlaw). IsLeastFound x o s.context c.args.m c.args.values.now r) c.in-Ok.is (rw m at c.in_ok-difference.ensures s x asked) in
    let below = subst (λ (r : Result (List Lemma) EntryFlaw). AreItemsShown before (points_of s.context) (asked_clauses s.context o d) c.args.items.now r) c.in-Ok-2.is (rw is at c.in_ok-lemmas.ensures.shown s x before asked held) in
    let fits : WholeFits c.args.m = subst WholeFits m (c.is_whole_within.ensures (search rules)) in
    rw m (best_shown c.right_is_so.ensures c.args.state.now o x s asked before c.args.m c.args.values.now c.args.items.now d found c.in_ok-shown.shown c.in-Ok-2.lemmas below fits c.in_ok-shown.ensures.same c.in_ok-shown.ensures.within)

pub returns-in-Ok-2-clause-held : goal.returns-in-Ok-2-clause-held
returns-in-Ok-2-clause-held c = λ ok s x before asked held.
    let o = c.args.objective in
    let m : to_z w128 (of_z w128 c.args.m) ≡ c.args.m = omega (arith, ints) in
    let d = c.in-Ok.difference in
    let is : to_z w128 (of_z w128 d) ≡ d = omega (arith, ints) in
    let found = subst (λ (r : Result ℤ EntryFlaw). IsLeastFound x o s.context c.args.m c.args.values.now r) c.in-Ok.is (rw m at c.in_ok-difference.ensures s x asked) in
    let good = subst (λ (r : Result (List Lemma) EntryFlaw). IsOk r) (sym c.in-Ok-2.is) refl in
    subst (λ (e : ℤ). Holds c.shown_below.new.earlier (before ++ placed_items s.context (asked_clauses s.context o e) c.args.items.now ∷ [])) found.1 (rw is at c.in_ok-lemmas.ensures.held good s x before asked held)

pub returns-in-Err-2-clause-shown : goal.returns-in-Err-2-clause-shown
returns-in-Err-2-clause-shown c = λ s x before asked held.
    let o = c.args.objective in
    let m : to_z w128 (of_z w128 c.args.m) ≡ c.args.m = omega (arith, ints) in
    let d = c.in-Ok.difference in
    let is : to_z w128 (of_z w128 d) ≡ d = omega (arith, ints) in
    let found = subst (λ (r : Result ℤ EntryFlaw). IsLeastFound x o s.context c.args.m c.args.values.now r) c.in-Ok.is (rw m at c.in_ok-difference.ensures s x asked) in
    let below = subst (λ (r : Result (List Lemma) EntryFlaw). AreItemsShown before (points_of s.context) (asked_clauses s.context o d) c.args.items.now r) c.in-Err-2.is (rw is at c.in_ok-lemmas.ensures.shown s x before asked held) in
    best_flawed c.right_is_so.ensures c.args.state.now o x s asked before c.args.m c.args.values.now c.args.items.now d found c.in-Err-2.flaw below
