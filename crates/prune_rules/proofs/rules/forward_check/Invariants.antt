use Rattle.std.proofs.Common.{◌≡◌, ◌<◌, ℕ, length, slice_index_or}
use Rattle.prune_rules.specs.declared.fate.Fate.TheVariants.{Live}
use Rattle.prune_rules.specs.Fates.{IsFate}
use Rattle.stn_core.specs.Literal.{literal_at}
use Rattle.prune_rules.proofs.rules.forward_check.Given as goal

abbrev pub invariant-literals : goal.invariant-literals
invariant-literals g l = let net = g.N.Net in record {
  kept : net.literals_of l.net ≡ net.literals_of l.fn.net;
  points : net.points_of l.net ≡ net.points_of l.fn.net;
  count : length l.fates.items ≡ l.literal-index;
  each : (k : ℕ) → k < l.literal-index → IsFate (net.points_of l.fn.net) (net.literals_of l.fn.net) (literal_at l.clause k) (slice_index_or l.fates.items k Live);
}
