-- A session that goes through its script: what it has written between two events, and at the end.
-- These are words of the code's inner contracts, and no part of the meaning.
use Rattle.std.specs.Prelude.{◌≡◌, ◌≢◌, ◌≤◌, ℕ, List, ◌++◌, Option}
use Rattle.std.specs.Io.KnownBytes.{Appends}
use Rattle.cert_text.specs.declared.entry.Entry.{Entry}
use Rattle.dtp_io.specs.Faults.{Rose}
use Rattle.smt_script.specs.States.{State}
use Rattle.script_walk.specs.code.Events.{IsReady, IsNextEvent}
use Rattle.script_walk.specs.declared.walk.Event.{Event}
use Rattle.dtp_entry.specs.declared.error.SessionError.{SessionError}
use Rattle.dtp_entry.specs.declared.error.SessionError.TheVariants.{WriteFault}
use Rattle.dtp_entry.specs.declared.report.Report.{Report}
use Rattle.dtp_entry.specs.Transcripts.{Output, IsOutput, IsReport, IsReportPart}
use Rattle.dtp_entry.specs.Written.{Writes}
use Rattle.dtp_session.specs.declared.session.Session.{Session}
use Rattle.dtp_session.specs.declared.session.Solved.{Solved}
use Rattle.dtp_session.specs.Ends.{status_of}
use Rattle.dtp_session.specs.code.Sessions.{Holds, From, PartFrom, behind}

-- its walk went on to an event, and nothing else was changed
pub record IsWalkedOn (p q : Session) (event : Event) : Type 0 where
  pub same : q ≡ record p { walk = q.walk }
  pub next : IsNextEvent p.walk q.walk event

-- what was written goes on to what is written of the whole script
pub record IsSoFar (report : Report) (script : List ℕ) (p : Session) (before now : Option (List ℕ)) : Type 0 where
  pub s : State
  pub stands : Holds p s
  pub written : List ℕ
  pub found : List Entry
  pub adds : Appends before now written
  pub whole : (rest : Output) → From p s rest → IsOutput report script (behind written found rest)
  pub part : (text : List ℕ) → PartFrom p s text → IsReportPart report script (written ++ text)

-- between two events of the session that began as the first one, by what the sink held and its count of faults, then and now
pub record IsAnswering (first p : Session) (before now : Option (List ℕ)) (faults_before faults_now : ℕ) : Type 0 where
  pub ready : IsReady p.walk
  pub report : p.report ≡ first.report
  pub bytes : p.walk.lexer.bytes ≡ first.walk.lexer.bytes
  pub quiet : faults_now ≡ faults_before
  pub so_far : IsSoFar first.report first.walk.lexer.bytes p before now

-- all is written
pub record IsWrittenOut (first : Session) (before now : Option (List ℕ)) (faults_before faults_now : ℕ) (end : Solved) : Type 0 where
  pub whole : Writes before now (λ added. IsReport first.report first.walk.lexer.bytes added (status_of end))
  pub quiet : faults_now ≡ faults_before

-- a legal front is written
pub record IsBrokenOff (first : Session) (before now : Option (List ℕ)) (faults_before faults_now : ℕ) (why : SessionError) : Type 0 where
  pub part : Writes before now (IsReportPart first.report first.walk.lexer.bytes)
  pub fault : why ≡ WriteFault → Rose faults_before faults_now
  pub quiet : why ≢ WriteFault → faults_now ≡ faults_before
  pub later : faults_before ≤ faults_now
