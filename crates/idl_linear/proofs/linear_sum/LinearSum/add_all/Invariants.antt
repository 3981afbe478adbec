use Rattle.std.proofs.Common.{◌≡◌, ◌+◌, drop, map}
use Rattle.idl_linear.specs.Forms.{with_terms}
use Rattle.idl_linear.proofs.linear_sum.LinearSum.add_all.Given as goal

abbrev pub invariant-loop-term : goal.invariant-loop-term
invariant-loop-term l = record {
  rest : with_terms l.self (map (λ t. t.now) (drop l.term-index l.terms)) ≡ with_terms l.fn.self (map (λ t. t.now) l.terms);
  few : l.self.terms ≡ l.fn.self.terms + l.term-index;
}
