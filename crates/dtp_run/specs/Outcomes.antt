-- What a run does, by the status that it ends with.
use Rattle.std.specs.Prelude.{◌≡◌, ◌≢◌, ◌⊎◌, ℕ, ◌≤◌, ◌^◌, List, [], length, map, codes, Option, Some, None, String, string_bytes}
use Rattle.std.specs.Io.KnownBytes.{Consumes, Appends, IsAtEnd}
use Rattle.dtp_io.specs.Faults.{Rose, AddsFront}
use Rattle.dtp_io.specs.Reading.{Stops}
use Rattle.dtp_io.specs.declared.all.ReadError.{ReadError}
use Rattle.dtp_io.specs.declared.all.ReadError.TheVariants as reading
use Rattle.dtp_entry.specs.Transcripts.{IsReport, IsReportPart}
use Rattle.dtp_entry.specs.declared.report.Report.TheVariants.{Verdicts, Certificate}
use Rattle.dtp_check.specs.Answered.{IsAnswer, IsAnswerPart}
use Rattle.dtp_check.specs.declared.check.Checked.{Checked}
use Rattle.dtp_check.specs.declared.check.Checked.TheVariants.{Accepted, NotAccepted as Unaccepted}
use Rattle.dtp_convert.specs.Converted.{IsConversion, IsConversionPart}
use Rattle.clap.specs.Words.{fault_of}
use Rattle.dtp_entry.specs.Written.{IsPartOf}
use Rattle.dtp_gen.specs.Plans.{Plan}
use Rattle.dtp_bench.specs.Benches.{IsBench}
use Rattle.cert_text.specs.declared.entry.Version.{Version}
use Rattle.cert_text.specs.declared.entry.Version.TheVariants.{One, Two}
use Rattle.command_line.specs.declared.line.Format.{Format}
use Rattle.command_line.specs.declared.line.Format.TheVariants as formats
use Rattle.command_line.specs.declared.line.Emit.{Emit as EmitWord}
use Rattle.command_line.specs.declared.line.Emit.TheVariants as words
use Rattle.dtp_jobshop.specs.declared.emit.Emit.{Emit}
use Rattle.dtp_jobshop.specs.declared.emit.Emit.TheVariants as emit
use Rattle.dtp_jobshop.specs.Jobshops.{IsShopAnswer, IsShopAnswerPart}
use Rattle.command_line.specs.declared.line.Line.{Line}
use Rattle.command_line.specs.declared.line.Shop.{Shop}
use Rattle.command_line.specs.declared.line.Line.TheVariants.{Solve, Certify, Check, Convert, Bench, Jobshop}
use Rattle.command_line.specs.Apps.{dtp_app}
use Rattle.command_line.specs.Lines.{line_of}
use Rattle.command_line.specs.Plain.{IsPlainLine}
use Rattle.dtp_run.specs.declared.status.Status.{Status}
use Rattle.dtp_run.specs.declared.status.Status.TheVariants.{Done, Refused, Usage, ReadFault, WriteFault, OutOfMemory, NotAccepted, TooLong}
use Rattle.dtp_run.specs.declared.work.Work.{Work}
use Rattle.dtp_run.specs.declared.work.Work.TheVariants as work
use Rattle.dtp_run.specs.Statuses.{code_of}

-- what the program sees of the outside: the bytes that the source has left and those that the sink holds, where they
-- are told, and how many faults each has had
pub record Outside : Type 0 where
  pub left : Option (List ℕ)
  pub read_faults : ℕ
  pub holds : Option (List ℕ)
  pub write_faults : ℕ

abbrev pub outside : Option (List ℕ) → ℕ → Option (List ℕ) → ℕ → Outside
outside left read_faults holds write_faults =
    record { left = left; read_faults = read_faults; holds = holds; write_faults = write_faults }

abbrev pub input_limit : ℕ
input_limit = 2 ^ 30

unfoldable pub usage_line : List ℕ
usage_line =
    codes "usage: dtp solve [--workers N] [--slice B], dtp certify [--workers N] [--slice B] [--format F], dtp check, dtp convert, dtp bench J M S D [--workers N], dtp jobshop [--emit E] [--workers N] [--slice B]\n"

-- nothing was read, and nothing went wrong in reading
pub record IsUnread (old new : Outside) : Type 0 where
  pub left : new.left ≡ old.left
  pub read_faults : new.read_faults ≡ old.read_faults

-- nothing was written, and nothing went wrong in writing
pub record IsUnwritten (old new : Outside) : Type 0 where
  pub holds : new.holds ≡ old.holds
  pub write_faults : new.write_faults ≡ old.write_faults

-- the source was read to its end, and gave this script within the limit
pub record IsInput (old new : Outside) (script : List ℕ) : Type 0 where
  pub consumed : Consumes old.left new.left script
  pub read_faults : new.read_faults ≡ old.read_faults
  pub ended : IsAtEnd new.left
  pub within : length script ≤ input_limit

-- the source wasn't read to its end, with this cause, and nothing was written
pub record IsUnfinished (error : ReadError) (old new : Outside) : Type 0 where
  pub stops : Stops input_limit old.left new.left old.read_faults new.read_faults error
  pub unwritten : IsUnwritten old new

abbrev pub WritesUsage : Option (List ℕ) → Option (List ℕ) → ℕ → ℕ → Type 0
WritesUsage before now faults_before faults_now =
    Appends before now usage_line ⊎ (AddsFront before now usage_line × Rose faults_before faults_now)

-- the usage line is written, or a front of it where the sink failed
abbrev pub IsUsage : Outside → Outside → Type 0
IsUsage old new = WritesUsage old.holds new.holds old.write_faults new.write_faults

-- the source was read to its end, and a text was written of which this is true with what the source gave
abbrev pub WritesOf : (List ℕ → List ℕ → Type 0) → Outside → Outside → Type 0
WritesOf Says old new =
    (input : List ℕ) × (text : List ℕ) × IsInput old new input × Appends old.holds new.holds text × Says input text

-- The outcomes of a line that reads its input, by the text that is whole with each status, and by what may have been written
-- where it is cut short.
abbrev pub IsWorked : (Status → List ℕ → List ℕ → Type 0) → (List ℕ → List ℕ → Type 0) → Outside → Outside → Status → Type 0
IsWorked Whole Part old new Usage = ⊥
IsWorked Whole Part old new ReadFault = IsUnfinished reading.ReadFault old new
IsWorked Whole Part old new TooLong = IsUnfinished reading.TooLong old new
IsWorked Whole Part old new WriteFault = Rose old.write_faults new.write_faults × WritesOf Part old new
IsWorked Whole Part old new OutOfMemory = IsUnfinished reading.OutOfMemory old new ⊎ WritesOf Part old new
IsWorked Whole Part old new status = WritesOf (Whole status) old new

-- A line's texts by the status that they end with. A report (dtp_entry) has a number, 1 where a command is refused, and so has what
-- is written of a job shop (dtp_jobshop), 1 where the numbers are none; an answer and a conversion (dtp_check, dtp_convert) accept or don't.
abbrev pub WithNumber : (List ℕ → List ℕ → ℕ → Type 0) → Status → List ℕ → List ℕ → Type 0
WithNumber Says Done input text = Says input text 0
WithNumber Says Refused input text = Says input text 1
WithNumber Says _ input text = ⊥

abbrev pub WithJudgement : (List ℕ → List ℕ → Checked → Type 0) → Status → List ℕ → List ℕ → Type 0
WithJudgement Says Done input text = Says input text Accepted
WithJudgement Says NotAccepted input text = Says input text Unaccepted
WithJudgement Says _ input text = ⊥

-- the version of certificates that is asked for
abbrev pub version_of : Format → Version
version_of formats.One = One
version_of formats.Two = Two

-- what is asked for of a job shop's numbers
abbrev pub emit_of : EmitWord → Emit
emit_of words.Plan = emit.Plan
emit_of words.Script = emit.Script
emit_of words.Certificate = emit.Certificate

-- the plan of a job shop's four numbers
abbrev pub plan_of : Shop → Plan
plan_of s = record { jobs = s.jobs; machines = s.machines; start = s.start; deadline = s.deadline }

-- the five lines about the plan's script are written whole; the source isn't read
abbrev pub Benches : Plan → Outside → Outside → Type 0
Benches p old new = IsUnread old new × ((text : List ℕ) × Appends old.holds new.holds text × IsBench p text)

-- a front of them is written
abbrev pub BenchesPart : Plan → Outside → Outside → Type 0
BenchesPart p old new = IsUnread old new × ((written : List ℕ) × Appends old.holds new.holds written × IsPartOf (IsBench p) written)

abbrev pub IsBenched : Plan → Outside → Outside → Status → Type 0
IsBenched p old new Done = Benches p old new
IsBenched p old new WriteFault = Rose old.write_faults new.write_faults × BenchesPart p old new
IsBenched p old new OutOfMemory = BenchesPart p old new
IsBenched p old new _ = ⊥

-- each kind of line has its own outcomes
abbrev pub IsOutcomeOf : Line → Outside → Outside → Status → Type 0
IsOutcomeOf (Solve search) old new status = IsWorked (WithNumber (IsReport Verdicts)) (IsReportPart Verdicts) old new status
IsOutcomeOf (Certify search format) old new status =
    let report = Certificate (version_of format) in IsWorked (WithNumber (IsReport report)) (IsReportPart report) old new status
IsOutcomeOf Check old new status = IsWorked (WithJudgement IsAnswer) IsAnswerPart old new status
IsOutcomeOf Convert old new status = IsWorked (WithJudgement IsConversion) IsConversionPart old new status
IsOutcomeOf (Bench shop workers) old new status = IsBenched (plan_of shop) old new status
IsOutcomeOf (Jobshop search e) old new status = IsWorked (WithNumber (IsShopAnswer (emit_of e))) (IsShopAnswerPart (emit_of e)) old new status

-- the words are no command line: the usage line, or nothing for want of memory; the source isn't read
abbrev pub IsRefused : Outside → Outside → Status → Type 0
IsRefused old new Usage = IsUnread old new × IsUsage old new
IsRefused old new OutOfMemory = IsUnread old new × IsUnwritten old new
IsRefused old new _ = ⊥

-- The outcome of a run: where the words are no command line the usage line, else what the line does.
abbrev pub IsOutcome : Option Line → Outside → Outside → Status → Type 0
IsOutcome None old new status = IsRefused old new status
IsOutcome (Some line) old new status = IsOutcomeOf line old new status

pub record IsRun (words : List (List ℕ)) (old new : Outside) (code : ℕ) : Type 0 where
  pub status : Status
  pub code_is : code ≡ code_of status
  pub outcome : IsOutcome (line_of words) old new status
  -- the usage line comes only where clap finds a fault in the words, and never on a plain line
  pub fault : status ≡ Usage → fault_of dtp_app words ≢ []
  pub plain : (line : Line) → IsPlainLine words line → status ≢ Usage
  -- the counts of faults never fall
  pub read_later : old.read_faults ≤ new.read_faults
  pub write_later : old.write_faults ≤ new.write_faults

abbrev pub texts : {A : Type 0} → List (String A) → List (List ℕ)
texts words = map (λ word. string_bytes word) words

-- ---- the same by the code's word for what is written of an input

-- whole, with a status
abbrev pub whole_of : Work → Status → List ℕ → List ℕ → Type 0
whole_of (work.Script report options) = WithNumber (IsReport report)
whole_of work.Check = WithJudgement IsAnswer
whole_of work.Convert = WithJudgement IsConversion
whole_of (work.Jobshop e options) = WithNumber (IsShopAnswer e)

-- where it is cut short
abbrev pub part_of : Work → List ℕ → List ℕ → Type 0
part_of (work.Script report options) = IsReportPart report
part_of work.Check = IsAnswerPart
part_of work.Convert = IsConversionPart
part_of (work.Jobshop e options) = IsShopAnswerPart e
