-- What runs say of each other, where the sources and the first sink tell their bytes.
use Rattle.std.specs.Prelude.{◌≡◌, ◌≢◌, ◌≤◌, ◌⊎◌, ℕ, List, ◌++◌, length, map, Option, Some, None}
use Rattle.command_line.specs.declared.line.Line.{Line}
use Rattle.command_line.specs.declared.line.Line.TheVariants.{Solve, Certify, Check, Convert, Bench, Jobshop}
use Rattle.command_line.specs.declared.line.Format.{Format}
use Rattle.command_line.specs.declared.line.Emit.TheVariants as emit
use Rattle.command_line.specs.declared.line.Search.{Search}
use Rattle.command_line.specs.Lines.{line_of}
use Rattle.cert_text.specs.declared.entry.Entry.{Entry}
use Rattle.dtp_entry.specs.declared.report.Report.{Report}
use Rattle.dtp_entry.specs.declared.report.Report.TheVariants.{Verdicts, Certificate}
use Rattle.dtp_entry.specs.Entries.{verdict_of}
use Rattle.dtp_entry.specs.Transcripts.{decision_line, IsOutput, lines_with_gaps}
use Rattle.dtp_check.specs.Told.{SaysNothingFalse}
use Rattle.dtp_check.specs.Whole.{IsWhole}
use Rattle.dtp_convert.specs.Laws.{IsScriptOf}
use Rattle.dtp_run.specs.Outcomes.{Outside, input_limit, version_of, IsRun}

-- a run whose words ask for this, and whose source has these bytes left
pub record Runs (line : Line) (input : List ℕ) (old new : Outside) (code : ℕ) : Type 0 where
  pub words : List (List ℕ)
  pub asks : line_of words ≡ Some line
  pub has : old.left ≡ Some input
  pub run : IsRun words old new code

-- a run whose sink held some bytes, and holds these behind them now
pub record Gives (added : List ℕ) (old new : Outside) : Type 0 where
  pub held : List ℕ
  pub before : old.holds ≡ Some held
  pub now : new.holds ≡ Some (held ++ added)

-- ---- one thread and many

-- a run of the line on the script that had memory and no fault outside, so that it ended with 0 or 1, and gave this text
pub record Answers (line : Line) (script text : List ℕ) (code : ℕ) : Type 0 where
  pub old : Outside
  pub new : Outside
  pub runs : Runs line script old new code
  pub gives : Gives text old new
  pub well : code ≤ 1

-- the text is this report of the script, whose questions these entries decided
abbrev pub IsReportBy : Report → List ℕ → List ℕ → ℕ → List Entry → Type 0
IsReportBy report script text status found =
    IsOutput report script (record { text = text; found = found; status = status })

-- the text is the script's transcript, in these lines, with a gap for each model, for values and for each proof
abbrev pub HasLines : List ℕ → List ℕ → ℕ → List (Option (List ℕ)) → Type 0
HasLines script text status lines =
    (found : List Entry) × (h : IsReportBy Verdicts script text status found) × (lines_with_gaps h.turns ≡ lines)

-- Two runs of `solve` on one script, with whatever numbers of workers and slices: their lines are the same in the same places,
-- those of questions among them, but for models, values, proofs and cores, and their status is the same.
abbrev pub LinesOfOneThread : Type 0
LinesOfOneThread =
    (few many : Search) (script one other : List ℕ) (m n : ℕ)
    → Answers (Solve few) script one m → Answers (Solve many) script other n
    → (m ≡ n) × ((lines : List (Option (List ℕ))) × HasLines script one m lines × HasLines script other n lines)

-- what is written of a script by a line
abbrev pub report_of : Line → Option Report
report_of (Solve search) = Some Verdicts
report_of (Certify search format) = Some (Certificate (version_of format))
report_of Check = None
report_of Convert = None
report_of (Bench shop workers) = None
report_of (Jobshop search emit) = None

-- Two runs of `solve` or `certify` on one script, with whatever numbers of workers and slices: their verdicts are the same, so are
-- the lines that their questions are answered, minimum values among them, and so is their status.
abbrev pub VerdictsOfOneThread : Type 0
VerdictsOfOneThread =
    (first second : Line) (r q : Report) (script one other : List ℕ) (m n : ℕ)
    → report_of first ≡ Some r → Answers first script one m → report_of second ≡ Some q → Answers second script other n
    → (m ≡ n)
    × ((found : List Entry) × (others : List Entry) × IsReportBy r script one m found × IsReportBy q script other n others
    × (map verdict_of found ≡ map verdict_of others) × (map (decision_line Verdicts) found ≡ map (decision_line Verdicts) others))

-- ---- certificates

-- `check` of a script and then a certificate doesn't refuse what `certify` wrote of the script with status 0, where the
-- script is cut behind its `(exit)`, if it has one, and doesn't end in a comment
abbrev pub CertifiedIsNotRefused : Type 0
CertifiedIsNotRefused =
    (search : Search) (format : Format) (script certificate : List ℕ) (a b c d : Outside) (code : ℕ) → IsWhole script
    → Runs (Certify search format) script a b 0 → Gives certificate a b
    → Runs Check (script ++ certificate) c d code → code ≢ 6

-- it ends with `accepted`, or by a fault outside or for want of memory
abbrev pub AcceptsOrFails : ℕ → Type 0
AcceptsOrFails code = (code ≡ 0) ⊎ ((3 ≤ code) × (code ≤ 5))

-- `check` of a script and then a certificate doesn't refuse what `convert` wrote with status 0 of a source whose script part has
-- the script's commands, where the script is cut behind its `(exit)`, if it has one, and doesn't end in a comment. Where the two
-- are within 2^30 bytes, it accepts them.
abbrev pub ConvertedIsNotRefused : Type 0
ConvertedIsNotRefused =
    (source script certificate : List ℕ) (a b c d : Outside) (code : ℕ) → IsScriptOf source script
    → Runs Convert source a b 0 → Gives certificate a b
    → Runs Check (script ++ certificate) c d code
    → (code ≢ 6) × (length (script ++ certificate) ≤ input_limit → AcceptsOrFails code)

-- where `check` ends with status 0, the entries behind the script in its source say nothing false, whoever made them
abbrev pub AcceptedSaysNothingFalse : Type 0
AcceptedSaysNothingFalse =
    (source : List ℕ) (a b : Outside) → Runs Check source a b 0 → SaysNothingFalse source

-- `check` of what two runs of `jobshop` wrote with status 0 of the same numbers, the script and behind it the certificate, doesn't refuse it
abbrev pub ShopIsNotRefused : Type 0
ShopIsNotRefused =
    (few many : Search) (input script certificate : List ℕ) (a b c d e f : Outside) (code : ℕ)
    → Runs (Jobshop few emit.Script) input a b 0 → Gives script a b
    → Runs (Jobshop many emit.Certificate) input c d 0 → Gives certificate c d
    → Runs Check (script ++ certificate) e f code → code ≢ 6
