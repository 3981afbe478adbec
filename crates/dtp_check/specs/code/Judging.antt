-- A judge that goes through the script's part of a source: where it stands between two events, and what comes next.
-- These are words of the code's inner contracts, and no part of the meaning.
use Rattle.std.specs.Prelude.{◌≡◌, ◌⊎◌, ◌≤◌, ◌<◌, ◌^◌, ℕ, ◌+◌, Bool, List, [], ◌++◌, length, Option, None}
use Rattle.smt_sexpr.specs.Tree.{Sexpr}
use Rattle.smt_sexpr.specs.Commands.{ended}
use Rattle.smt_sexpr.specs.Reading.{Spells}
use Rattle.stn_core.specs.declared.problem.Problem.{Problem}
use Rattle.cert_text.specs.declared.entry.FileEntry.{FileEntry}
use Rattle.cert_read.specs.code.Entries.{EntriesFrom, IsReadTo}
use Rattle.kept_lemmas.specs.Entries.{Placed}
use Rattle.smt_script.specs.code.Kept.{Kept}
use Rattle.smt_script.specs.States.{State}
use Rattle.script_walk.specs.Course.{Place, course}
use Rattle.script_walk.specs.code.Events.{Carries}
use Rattle.script_walk.specs.code.Standing.{Stands}
use Rattle.script_walk.specs.declared.walk.Event.{Event}
use Rattle.script_walk.specs.declared.walk.Event.TheVariants.{Told, Asked, Ended, Failed}
use Rattle.script_walk.specs.declared.walk.Walk.{Walk}
use Rattle.dtp_check.specs.declared.earlier.Earlier.{Earlier}
use Rattle.dtp_check.specs.declared.judgement.Judgement.{Judgement}
use Rattle.dtp_check.specs.declared.script_part.PartEnd.{PartEnd}
use Rattle.dtp_check.specs.declared.script_part.PartEnd.TheVariants as part
use Rattle.dtp_check.specs.Judged.{EndsPart, IsApart, ScriptPart, told_by, turns_with}
use Rattle.dtp_check.specs.code.Earlier.{HoldsTrees, SufficesFrom}
use Rattle.dtp_check.specs.code.Made.{IsMadeStill}
use Rattle.dtp_check.specs.code.Parts.{IsReadable}
use Rattle.dtp_check.specs.code.Turns.{Leads, ComesTo, StandsAt, with_left}

-- ---- what comes next

-- a command that was read, and carried out
pub record IsPartCommand (v w : Walk) (event : Event) : Type 0 where
  pub x : Sexpr
  pub spells : Spells v.lexer.bytes v.lexer.place x w.lexer.place
  pub apart : IsApart x
  -- behind it, before it was carried out
  pub read : Walk
  pub number : read.number ≡ v.number
  pub state : read.state ≡ v.state
  pub carries : (s : State) → Stands read.state s → Carries read w s x event
  pub fresh : w.lexer.failed ≡ None
  pub forward : v.lexer.place < w.lexer.place
  pub within : w.lexer.place ≤ length w.lexer.bytes
  pub lexer_bytes : w.lexer.bytes ≡ v.lexer.bytes
  pub table_bytes : w.sexprs.bytes ≡ v.sexprs.bytes

-- what ends the script's part
abbrev pub IsPartEnd : Walk → PartEnd → Type 0
IsPartEnd v found = (behind : ℕ) × EndsPart v.lexer.bytes v.lexer.place found behind

abbrev pub IsPartEvent : Walk → Walk → Event → Type 0
IsPartEvent v w (Told id notice) = IsPartCommand v w (Told id notice)
IsPartEvent v w (Asked id question) = IsPartCommand v w (Asked id question)
IsPartEvent v w Ended = IsPartCommand v w Ended ⊎ ((found : PartEnd) × IsPartEnd v found)
IsPartEvent v w (Failed kind) = IsPartCommand v w (Failed kind) ⊎ IsPartEnd v (part.Unread kind)

-- ---- between two events

module _ {K : Type 0} (leads : Leads K) (bytes : List ℕ) (start : EntriesFrom) (first : K) where
  -- what is left of the script comes to what the whole does, behind these entries and with those that are left
  pub record IsLeft (taken : List FileEntry) (place : Place FileEntry) (at : ℕ) (before : List Placed) (now : K) (xs : List Sexpr) (end : PartEnd) (behind : ℕ) : Type 0 where
    pub rest : List Sexpr
    pub stands_there : ScriptPart bytes at rest end behind
    pub gives : (left : List FileEntry) (judgement : Judgement) (last : K) → ComesTo leads before now (course told_by (with_left place left) rest ended) judgement last → ComesTo leads [] first (turns_with (taken ++ left) xs) judgement last

  pub record IsJudging (at number : ℕ) (here : EntriesFrom) (kept : Kept) (earlier : Earlier) (now : K) : Type 0 where
    pub place : Place FileEntry
    pub before : List Placed
    pub taken : List FileEntry
    pub takes : IsReadTo start here taken
    pub there : StandsAt number here.count kept earlier place before
    pub left : (xs : List Sexpr) (end : PartEnd) (behind : ℕ) → ScriptPart bytes 0 xs end behind → IsReadable end → IsLeft taken place at before now xs end behind

-- the judge that began with these bytes and entries, and with what was kept first, and that holds trees or not
pub record IsJudgingSoFar {K : Type 0} (leads : Leads K) (wanted : Bool) (bytes : List ℕ) (start : EntriesFrom) (first : K) (w : Walk) (made : Option Problem) (earlier : Earlier) (here : EntriesFrom) (now : K) : Type 0 where
  pub fresh : w.lexer.failed ≡ None
  pub lexer_bytes : w.lexer.bytes ≡ bytes
  pub table_bytes : w.sexprs.bytes ≡ bytes
  pub within : w.lexer.place ≤ length bytes
  pub counted : w.number ≤ w.lexer.place + 1
  pub few : length bytes < 2 ^ 63
  pub suffices : SufficesFrom earlier here
  pub trees : HoldsTrees wanted earlier
  pub made_still : IsMadeStill w.state made
  pub judging : IsJudging leads bytes start first w.lexer.place w.number here w.state earlier now
