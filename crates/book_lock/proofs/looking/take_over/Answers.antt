use Rattle.std.proofs.Common.{arith, rules}
use Rattle.book_lock.proofs.Taking.{taken_more, front_kept}
use Rattle.book_lock.proofs.looking.take_over.Goals as goal

pub loop-k-preserved : goal.loop-k-preserved
loop-k-preserved c =
    let i = c.loop-k.invariant in
    record {
      count = search rules;
      low = omega (arith, i.low);
      high = omega (arith, c.loop-k-test.true);
      front = front_kept _ _ c.loop-k.lemmas.items _ _ i.front (omega (arith, i.low, i.count)) c.in_ok-push.ensures.items;
      same = taken_more _ c.loop-k.lemmas.items _ _ _ _ _ i.same (omega (arith, c.loop-k-test.true)) c.index-shared-k.is c.in_ok-lemma.ensures c.in_ok-push.ensures.items;
    }
