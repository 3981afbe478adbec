use Rattle.std.proofs.Common.{ℕ, All, take, drop}
use Rattle.stn_core.specs.Cycle.{Leads}
use Rattle.stn_core.specs.Literal.{literal_at}
use Rattle.refute_tree.specs.code.Paths.{IsNarrow}
use Rattle.refute_tree.proofs.narrow.is_short_path.Given as goal

abbrev pub invariant-loop-literal : goal.invariant-loop-literal
invariant-loop-literal l = record {
  narrow : All IsNarrow (take l.literal-index l.literals);
  leads : (to : ℕ) → Leads l.point (drop l.literal-index l.literals) to → Leads (literal_at l.literals 0).x l.literals to;
}
