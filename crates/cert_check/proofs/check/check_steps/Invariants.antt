use Rattle.std.proofs.Common.{◌≡◌, ℕ, ◌+◌, ◌≤◌, ◌∷◌, [], map, length}
use Rattle.stn_core.specs.Literal.{negation_of}
use Rattle.cert_check.specs.Flaws.{steps_flaw}
use Rattle.cert_check.specs.code.Walks.{cases_open, IsWalk}
use Rattle.cert_check.proofs.check.check_steps.Given as goal

abbrev pub invariant-steps : goal.invariant-steps
invariant-steps g l = record {
  stack : IsWalk l.walk;
  within : length l.reader ≤ l.count;
  same :
      (at : ℕ) → at + length l.reader ≡ l.count
      → steps_flaw l.problem.points l.problem.clauses (g.E.Earlier.clauses l.earlier) (cases_open l.open l.walk) at l.reader
      ≡ steps_flaw l.problem.points l.problem.clauses (g.E.Earlier.clauses l.earlier) (map negation_of l.lemma.clause ∷ []) 0 l.lemma.steps;
}

abbrev pub decreases-steps : goal.decreases-steps
decreases-steps g l = length l.reader
