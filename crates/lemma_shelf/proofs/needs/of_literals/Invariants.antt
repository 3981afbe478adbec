use Rattle.std.proofs.Common.{◌≡◌, ℕ, drop}
use Rattle.std.specs.Prelude.{nat_le, ◌&&◌}
use Rattle.std.specs.List.{list_all}
use Rattle.cert_check.specs.Tests.{is_on_points}
use Rattle.lemma_shelf.proofs.needs.of_literals.Given as goal

abbrev pub invariant-loop-literal : goal.invariant-loop-literal
invariant-loop-literal l = (count : ℕ) → (nat_le l.needs count && list_all (is_on_points count) (drop l.literal-index l.literals)) ≡ (nat_le l.least count && list_all (is_on_points count) l.literals)
