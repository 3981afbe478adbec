use Rattle.std.proofs.Common.{arith, rules}
use Rattle.book_lock.proofs.Seating.{sees_as}
use Rattle.book_lock.proofs.turns.see.Goals as goal

pub compare_exchange-requires : goal.compare_exchange-requires
compare_exchange-requires c = (search rules, omega (arith, c.requires.table.1), sees_as _ _ _ _ c.requires.table.2 c.requires.rests.0 c.requires.rests.2)
