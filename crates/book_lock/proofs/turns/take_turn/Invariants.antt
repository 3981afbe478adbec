use Rattle.std.proofs.Common.{◌≡◌}
use Rattle.book_lock.proofs.turns.take_turn.Given as goal

abbrev pub invariant-loop : goal.invariant-loop
invariant-loop g l =
    (goal.iterator-loop g).can_next l.iterator' × (goal.iterator-loop g).is_finite l.iterator'
    × (l.token.table_id ≡ l.initial.token.table_id) × (l.token.id ≡ l.initial.token.id) × (l.token.me ≡ l.initial.token.me)
