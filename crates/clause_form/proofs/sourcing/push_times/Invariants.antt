use Rattle.std.proofs.Common.{◌≡◌, ◌≤◌, ◌++◌, replicate}
use Rattle.clause_form.proofs.sourcing.push_times.Given as goal

abbrev pub invariant-loop-k : goal.invariant-loop-k
invariant-loop-k l = record { within : l._k ≤ l.count; same : l.sources.items ≡ l.fn.sources.items ++ replicate l._k l.source }
