-- What a call that writes a report of a script has done, by its result.
use Rattle.std.specs.Prelude.{◌≡◌, ◌≢◌, ◌≤◌, ℕ, List, Option, Result, Err, IfOk, OnErr}
use Rattle.dtp_io.specs.Faults.{Rose}
use Rattle.dtp_entry.specs.declared.error.SessionError.{SessionError}
use Rattle.dtp_entry.specs.declared.error.SessionError.TheVariants.{WriteFault}
use Rattle.dtp_entry.specs.declared.report.Report.{Report}
use Rattle.dtp_entry.specs.Transcripts.{IsReport, IsReportPart}
use Rattle.dtp_entry.specs.Written.{Writes}
use Rattle.dtp_session.specs.declared.session.Solved.{Solved}
use Rattle.dtp_session.specs.Ends.{status_of}

-- by what the sink holds and its count of faults, before and now
pub record IsSolved (report : Report) (script : List ℕ) (before now : Option (List ℕ))
    (faults_before faults_now : ℕ) (result : Result Solved SessionError) : Type 0 where
  -- the whole is written, and its status is the result's
  pub whole : IfOk result (λ end. Writes before now (λ added. IsReport report script added (status_of end)))
  -- a legal front of it is written
  pub part : OnErr result (Writes before now (λ added. IsReportPart report script added))
  -- the count of faults rises where the sink failed, and only there
  pub fault : result ≡ Err WriteFault → Rose faults_before faults_now
  pub quiet : result ≢ Err WriteFault → faults_now ≡ faults_before
  pub later : faults_before ≤ faults_now
