use Rattle.std.proofs.Common.{◌≡◌, ◌⊎◌, ℕ, ◌<◌}
use Rattle.stn_core.specs.Literal.{negation_of, literal_at}
use Rattle.conflict_analysis.specs.code.Trails.{StandsUsed, IsMarkedMore}
use Rattle.conflict_analysis.specs.code.Places.{KeepsWaiting}
use Rattle.conflict_analysis.proofs.marking.need_cycle.Given as goal

abbrev pub invariant-loop-q : goal.invariant-loop-q
invariant-loop-q g l = record {
  more : IsMarkedMore l.below l.fn.marks.roles.items l.marks.roles.items;
  waiting : KeepsWaiting l.fn.marks.roles.items l.fn.marks.waiting l.marks.roles.items l.marks.waiting;
  passed : l.marks.passed.items ≡ l.fn.marks.passed.items;
  used : (i : ℕ) → i < l.q → (literal_at l.cycle i ≡ negation_of l.fn.literal) ⊎ StandsUsed l.graph.trail l.marks.roles.items l.below (literal_at l.cycle i);
}
