use Rattle.std.proofs.Common.{◌≤◌, ◌-◌, length}
use Rattle.cert_check.specs.code.Walks.{clause_in, ClosesCases}
use Rattle.cert_check.proofs.cases.close_cases.Given as goal

abbrev pub invariant-cases : goal.invariant-cases
invariant-cases l = record {
  within : l.next ≤ length (clause_in l.cases);
  closed : ClosesCases l.assumed (clause_in l.cases) l.place l.next l.initial.reader l.reader;
}

abbrev pub decreases-cases : goal.decreases-cases
decreases-cases l = length (clause_in l.cases) - l.next
