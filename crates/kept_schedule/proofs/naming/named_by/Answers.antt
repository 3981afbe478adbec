use Rattle.std.proofs.Common.{arith, ap, length, ◌∙◌}
use Rattle.std.proofs.lemmas.List.{length_push}
use Rattle.std.proofs.lemmas.List.Elements.{All-push}
use Rattle.stn_core.specs.Named.{IsWithinLimit}
use Rattle.kept_schedule.proofs.Tested.{next_of_sorts}
use Rattle.kept_schedule.proofs.naming.named_by.Goals as goal

pub loop-k-preserved : goal.loop-k-preserved
loop-k-preserved c = record {
  count = (let items = c.in_ok-push.ensures.items in let count = c.loop-k.invariant.count in ap length items ∙ length_push c.loop-k.named.items c.named_value.result ∙ omega (arith, count));
  so_far = next_of_sorts c.args.sorts.now c.loop-k.k _ c.loop-k.named.items _ c.named_value.result c.loop-k.invariant.count c.loop-k-test.true c.loop-k.invariant.so_far c.named_value.ensures.sort c.in_ok-push.ensures.items;
  within = rw c.in_ok-push.ensures.items (All-push IsWithinLimit c.loop-k.named.items c.named_value.result c.loop-k.invariant.within c.named_value.ensures.within);
}
