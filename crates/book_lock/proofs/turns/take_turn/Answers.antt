use Rattle.std.proofs.Common.{rules, arith, ◌≡◌, ℕ, ◌∷◌, [], List, Option, Some, ap, ◌∙◌}
use Rattle.atomic_table.specs.Table.{step}
use mathlib.Core.Option as maybe
use Rattle.book_core.specs.Runs.{Ledger}
use Rattle.book_lock.specs.Begun.{with_events}
use Rattle.book_lock.specs.Rules.{Mine}
use Rattle.book_lock.proofs.Steps.{enters_as, entered_at, in_hand}
use Rattle.book_lock.proofs.turns.take_turn.Goals as goal

pub compare_exchange-found-requires : goal.compare_exchange-found-requires
compare_exchange-found-requires g c =
    let same : c.loop.token.me ≡ c.args.token.now.me = c.loop.invariant.4 in
    (search rules, omega (arith, c.requires.table.1), enters_as _ _ _ _ c.requires.table.2 (ap (λ (m : Mine). m.1) same ∙ c.requires.rests.0) (ap (λ (m : Mine). m.0.spent) same ∙ c.requires.rests.2))

pub exchange-requires : goal.exchange-requires
exchange-requires g c =
    let m : Mine = c.loop.token.me in
    let m' : Mine = c.compare_exchange-found.new.seat.me in
    let t = entered_at (step c.args.top.now.table_id.slots 0 0 1 maybe.none) m c.compare_exchange-found.result m' c.compare_exchange-found.ensures.2 c.if-found-eq0.true in
    let empty : m.1 ≡ [] = ap (λ (k : Mine). k.1) c.loop.invariant.4 ∙ c.requires.rests.0 in
    let book : Option Ledger = Some (with_events m.0.begun t.0) in
    let now : m'.1 ≡ (0, book) ∷ [] = ap (λ (k : Mine). k.1) t.1 ∙ ap (λ (l : List (ℕ × Option Ledger)). (0, book) ∷ l) empty in
    (c.compare_exchange-found.ensures.0 ∙ c.loop.invariant.2 ∙ c.requires.table.0, (book, in_hand m'.1 book now))
