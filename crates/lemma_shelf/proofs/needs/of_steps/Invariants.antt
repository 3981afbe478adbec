use Rattle.std.proofs.Common.{◌≡◌, ℕ, length, All}
use Rattle.std.specs.Prelude.{nat_le, ◌&&◌}
use Rattle.std.specs.List.{list_all}
use Rattle.lemma_shelf.specs.code.Tables.{step_fits, CitesBelow}
use Rattle.lemma_shelf.proofs.needs.of_steps.Given as goal

abbrev pub invariant-steps : goal.invariant-steps
invariant-steps l = record {
  known : All (CitesBelow (length l.points)) l.reader;
  fits : (count : ℕ) → (nat_le l.needs count && list_all (step_fits l.points count) l.reader) ≡ (nat_le l.least count && list_all (step_fits l.points count) l.fn.reader);
}

abbrev pub decreases-steps : goal.decreases-steps
decreases-steps l = length l.reader
