use Rattle.std.proofs.Common.{◌≡◌, ◌<◌, ℕ, length, drop, get_or}
use Rattle.clause_form.specs.Polarity.{is_among}
use Rattle.clause_form.specs.code.FirstRoots.{lowered}
use Rattle.clause_form.proofs.sourcing.lower_all.Given as goal

abbrev pub invariant-loop-number : goal.invariant-loop-number
invariant-loop-number l = record {
  count : length l.firsts ≡ length l.fn.firsts;
  each : (k d : ℕ) → k < length l.fn.firsts → lowered (is_among k (drop l.number-index l.numbers)) l.first (get_or l.firsts k d) ≡ lowered (is_among k l.numbers) l.first (get_or l.fn.firsts k d);
}
