use Rattle.std.proofs.Common.{◌≡◌, ◌<◌, ◌++◌, ◌∷◌, [], ℕ}
use Rattle.stn_core.specs.Literal.{negation_of, literal_at}
use Rattle.stn_core.specs.Net.{IsConsistent}
use Rattle.prune_rules.proofs.rules.is_subsumed.Given as goal

abbrev pub invariant-literals : goal.invariant-literals
invariant-literals g l = let net = g.N.Net in record {
  kept : net.literals_of l.net ≡ net.literals_of l.fn.net;
  points : net.points_of l.net ≡ net.points_of l.fn.net;
  consistent : (k : ℕ) → k < l.place → IsConsistent (net.points_of l.fn.net) (net.literals_of l.fn.net ++ negation_of (literal_at l.clause k) ∷ []);
}
