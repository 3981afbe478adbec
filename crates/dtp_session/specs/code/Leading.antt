-- A session whose answers aren't written: the turns that it goes through, and what its minimizes come to.
-- These are words of the code's inner contracts, and no part of the meaning.
use Rattle.std.specs.Prelude.{◌≡◌, ℕ, List, [], ◌∷◌, ◌++◌, Option, Some, None}
use Rattle.cert_text.specs.declared.entry.Entry.{Entry}
use Rattle.smt_script.specs.States.{State}
use Rattle.script_walk.specs.Course.{Turn, Outcome, status_of, answers_of}
use Rattle.script_walk.specs.code.Events.{IsReady}
use Rattle.dtp_entry.specs.declared.report.Report.TheVariants.{Verdicts}
use Rattle.dtp_entry.specs.Transcripts.{Held, AreTurns}
use Rattle.dtp_session.specs.Leasts.{minimum_of, last_minimum}
use Rattle.dtp_session.specs.declared.least.Minimum.{Minimum}
use Rattle.dtp_session.specs.declared.session.Session.{Session}
use Rattle.dtp_session.specs.code.Sessions.{Holds, Runs}

-- what an entry that is held tells
abbrev pub minimum_held : Held → Option Minimum
minimum_held (Some entry) = minimum_of entry
minimum_held None = None

-- a turn that comes to this, and behind it the script goes on
pub record LeadsOn (p q : Session) (s : State) (outcome : Outcome Entry) : Type 0 where
  pub next : State
  pub stands : Holds q next
  pub found : List Entry
  pub goes : (rest : List Entry) (status : ℕ) (turns : List (Turn Entry)) → Runs q next rest status turns
      → (t : Turn Entry) × (t.outcome ≡ outcome) × Runs p s (found ++ rest) status (t ∷ turns)

-- the script ends here, with this status
pub record EndsHere (p : Session) (s : State) (status : ℕ) : Type 0 where
  pub turns : List (Turn Entry)
  pub runs : Runs p s [] status turns
  pub same : (last : Option Minimum) → last_minimum last turns ≡ last

-- all turns of a script that ends with this status and uses these entries
pub record IsRunOf (script : List ℕ) (found : List Entry) (status : ℕ) (turns : List (Turn Entry)) : Type 0 where
  pub are : AreTurns Verdicts script found turns
  pub over : status_of turns ≡ Some status
  pub used : answers_of turns ≡ found

-- the turns so far go on to those of the whole script, and this is what their last minimize came to
pub record IsLeastSoFar (script : List ℕ) (p : Session) (least : Option Minimum) : Type 0 where
  pub s : State
  pub stands : Holds p s
  pub found : List Entry
  pub whole : (rest : List Entry) (status : ℕ) (turns : List (Turn Entry)) → Runs p s rest status turns
      → (all : List (Turn Entry)) × IsRunOf script (found ++ rest) status all × (last_minimum None all ≡ last_minimum least turns)

-- between two events of the session that began as the first one
pub record IsSeeking (first p : Session) (least : Option Minimum) : Type 0 where
  pub ready : IsReady p.walk
  pub bytes : p.walk.lexer.bytes ≡ first.walk.lexer.bytes
  pub so_far : IsLeastSoFar first.walk.lexer.bytes p least
