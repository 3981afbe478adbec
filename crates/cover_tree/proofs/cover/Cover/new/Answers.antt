use Rattle.cover_tree.proofs.Tables.{first_flag, first_unflagged, whole_tables}
use Rattle.cover_tree.proofs.cover.Cover.new.Goals as goal

pub invariant_of-result : goal.invariant_of-result
invariant_of-result c =
    whole_tables _ _ _ _ _ c.new.ensures.items c.in_ok-nodes.ensures.items c.push_reserved.ensures.items
    (first_flag _ _ _ _ c.new-free.ensures c.in_ok-reserve.ensures.flags c.push_reserved-2.ensures.flags c.insert.ensures.flags)
    (first_unflagged _ _ _ c.new-held.ensures c.in_ok-reserve-2.ensures.flags c.push_reserved-3.ensures.flags)
