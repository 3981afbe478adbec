-- What a session has done, in the words of its script.
use Rattle.std.proofs.Common.{subst, ◌≡◌, ℕ, List, Option, Result}
use Rattle.dtp_entry.specs.declared.error.SessionError.{SessionError}
use Rattle.dtp_entry.specs.declared.report.Report.{Report}
use Rattle.dtp_session.specs.declared.session.Solved.{Solved}
use Rattle.dtp_session.specs.Solving.{IsSolved}

pub solved_as : (report other : Report) (script bytes : List ℕ) (before now : Option (List ℕ)) (faults_before faults_now : ℕ) (r : Result Solved SessionError) → other ≡ report → bytes ≡ script
    → IsSolved other bytes before now faults_before faults_now r → IsSolved report script before now faults_before faults_now r
solved_as report other script bytes before now faults_before faults_now r e f h =
    let there = subst (λ (w : Report). IsSolved w bytes before now faults_before faults_now r) e h in
    subst (λ (b : List ℕ). IsSolved report b before now faults_before faults_now r) f there
