use Rattle.std.proofs.Common.{◌≡◌, List, [], ◌∷◌, Option, Some, sym, ap, ◌∙◌, subst, rules}
use Rattle.atomic_table.specs.Table.{opening}
use Rattle.book_core.specs.Runs.{Ledger, state_of}
use Rattle.book_lock.specs.Begun.{Opens, fresh, with_events}
use Rattle.book_lock.specs.Rules.{Holds, opener}
use Rattle.book_lock.proofs.Seating.{starts}
use Rattle.book_lock.proofs.Turning.{opener_kept}
use Rattle.book_lock.proofs.desk.Desk.start_with.Goals as goal

pub new-requires : goal.new-requires
new-requires c =
    let p : Ledger = c.of-about.result.value in
    let b : Ledger = c.in_ok-book.book in
    let v : p ≡ b = search rules in
    let is : p ≡ fresh c.args.problem c.args.opening.lemmas = v ∙ c.in_ok-book.ensures in
    let full : b ≡ with_events p [] = c.in_ok-book.ensures ∙ sym (ap (λ (l : Ledger). with_events l []) is) in
    let items : c.push.new.self.items ≡ Some b ∷ [] = search rules in
    subst (λ (xs : List (Option Ledger)). Holds p (opening (0 ∷ 0 ∷ []) xs (opener p))) (sym (items ∙ ap (λ (l : Ledger). Some l ∷ []) full)) (starts p (subst Opens (sym is) c.requires.opening))

pub invariant_of-result-in-Ok : goal.invariant_of-result-in-Ok
invariant_of-result-in-Ok c =
    let p : Ledger = c.of-about.result.value in
    let v : p ≡ c.in_ok-book.book = search rules in
    let is : p ≡ fresh c.args.problem c.args.opening.lemmas = v ∙ c.in_ok-book.ensures in
    opener_kept p c.in-Ok.token.me _ (subst Opens (sym is) c.requires.opening) (search rules)
    (c.in_ok-lemmas.ensures ∙ c.lemmas.ensures ∙ ap (λ (l : Ledger). (state_of l).lemmas) c.in_ok-book.ensures ∙ sym (ap (λ (l : Ledger). l.opening) is))
