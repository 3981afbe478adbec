-- What is so of each line: the usage line isn't its outcome, and want of memory for the words is one. What a new line adds is a case of
-- the first two lemmas.
use Rattle.std.proofs.Common.{arith, ◌≡◌, ℕ, List, [], Option, Some, None, refl, sym, subst, inl}
use Rattle.std.specs.Prelude.{◌≢◌}
use Rattle.clap.specs.Words.{fault_of}
use Rattle.dtp_io.specs.Faults.{TookWithin}
use Rattle.dtp_io.specs.declared.all.ReadError.TheVariants as reading
use Rattle.dtp_entry.proofs.Written.{appends_nothing}
use Rattle.dtp_entry.specs.Transcripts.{IsReport, IsReportPart}
use Rattle.dtp_entry.specs.declared.report.Report.TheVariants.{Certificate}
use Rattle.cert_text.specs.declared.entry.Version.{Version}
use Rattle.command_line.specs.declared.line.Line.{Line}
use Rattle.command_line.specs.declared.line.Line.TheVariants.{Solve, Certify, Check, Convert, Bench, Jobshop}
use Rattle.command_line.specs.Apps.{dtp_app}
use Rattle.command_line.specs.Lines.{line_of}
use Rattle.command_line.specs.Plain.{IsPlainLine}
use Rattle.command_line.proofs.Faulting.{no_line_has_fault}
use Rattle.command_line.proofs.Saying.{plain_line}
use Rattle.dtp_run.specs.declared.status.Status.{Status}
use Rattle.dtp_run.specs.declared.status.Status.TheVariants.{OutOfMemory, Usage}
use Rattle.dtp_jobshop.specs.declared.emit.Emit.{Emit}
use Rattle.dtp_jobshop.specs.Jobshops.{IsShopAnswer, IsShopAnswerPart}
use Rattle.dtp_run.specs.Outcomes.{Outside, outside, IsOutcome, IsOutcomeOf, IsUnfinished, IsWorked, WithNumber}

of_a_line : (line : Line) (old new : Outside) → IsOutcomeOf line old new Usage → ⊥
of_a_line (Solve search) old new h = h
of_a_line (Certify search format) old new h = h
of_a_line Check old new h = h
of_a_line Convert old new h = h
of_a_line (Bench shop workers) old new h = h
of_a_line (Jobshop search e) old new h = h

-- nothing was taken
took_nothing : (left : Option (List ℕ)) (limit : ℕ) → TookWithin left left limit
took_nothing None limit = ([], tt, omega arith)
took_nothing (Some bytes) limit = ([], refl, omega arith)

not_begun : (left : Option (List ℕ)) (read_faults : ℕ) (holds : Option (List ℕ)) (write_faults : ℕ)
    → IsUnfinished reading.OutOfMemory (outside left read_faults holds write_faults) (outside left read_faults holds write_faults)
not_begun left read_faults holds write_faults = record { stops = (took_nothing left _, refl); unwritten = record { holds = refl; write_faults = refl } }

line_without_memory : (line : Line) (left : Option (List ℕ)) (read_faults : ℕ) (holds : Option (List ℕ)) (write_faults : ℕ)
    → IsOutcomeOf line (outside left read_faults holds write_faults) (outside left read_faults holds write_faults) OutOfMemory
line_without_memory (Solve search) left read_faults holds write_faults = inl (not_begun left read_faults holds write_faults)
line_without_memory (Certify search format) left read_faults holds write_faults = inl (not_begun left read_faults holds write_faults)
line_without_memory Check left read_faults holds write_faults = inl (not_begun left read_faults holds write_faults)
line_without_memory Convert left read_faults holds write_faults = inl (not_begun left read_faults holds write_faults)
line_without_memory (Bench shop workers) left read_faults holds write_faults =
    (record { left = refl; read_faults = refl }, ([], appends_nothing holds, inl refl))
line_without_memory (Jobshop search e) left read_faults holds write_faults = inl (not_begun left read_faults holds write_faults)

-- ---- of any line

pub without_memory : (o : Option Line) (left : Option (List ℕ)) (read_faults : ℕ) (holds : Option (List ℕ)) (write_faults : ℕ)
    → IsOutcome o (outside left read_faults holds write_faults) (outside left read_faults holds write_faults) OutOfMemory
without_memory None left read_faults holds write_faults = (record { left = refl; read_faults = refl }, record { holds = refl; write_faults = refl })
without_memory (Some line) left read_faults holds write_faults = line_without_memory line left read_faults holds write_faults

of_a_line_by : (o : Option Line) (line : Line) (old new : Outside) (status : Status) → o ≡ Some line
    → IsOutcome o old new status → status ≡ Usage → ⊥
of_a_line_by o line old new status e h is =
    let outcome = subst (λ (p : Option Line). IsOutcome p old new status) e h in
    of_a_line line old new (subst (λ (s : Status). IsOutcome (Some line) old new s) is outcome)

pub not_on_plain : (words : List (List ℕ)) (old new : Outside) (status : Status)
    → IsOutcome (line_of words) old new status → (line : Line) → IsPlainLine words line → status ≢ Usage
not_on_plain words old new status h line plain =
    λ is. of_a_line_by (line_of words) line old new status (plain_line words line plain) h is

none_by : (o : Option Line) (old new : Outside) (status : Status) → IsOutcome o old new status
    → status ≡ Usage → o ≡ None
none_by None old new status h is = refl
none_by (Some line) old new status h is = absurd (of_a_line_by (Some line) line old new status refl h is)

pub has_fault : (words : List (List ℕ)) (old new : Outside) (status : Status)
    → IsOutcome (line_of words) old new status → status ≡ Usage → fault_of dtp_app words ≢ []
has_fault words old new status h is = no_line_has_fault words (none_by (line_of words) old new status h is)

-- the outcome of the line that the words ask for
pub outcome_of : (o : Option Line) (line : Line) (old new : Outside) (status : Status) → o ≡ Some line → IsOutcome (Some line) old new status → IsOutcome o old new status
outcome_of o line old new status e h = subst (λ (p : Option Line). IsOutcome p old new status) (sym e) h

-- in the words of the version
pub certified_as : (v w : Version) (old new : Outside) (status : Status) → v ≡ w
    → IsWorked (WithNumber (IsReport (Certificate v))) (IsReportPart (Certificate v)) old new status
    → IsWorked (WithNumber (IsReport (Certificate w))) (IsReportPart (Certificate w)) old new status
certified_as v w old new status e h = subst (λ (u : Version). IsWorked (WithNumber (IsReport (Certificate u))) (IsReportPart (Certificate u)) old new status) e h

-- in the words of what is asked for
pub emitted_as : (e f : Emit) (old new : Outside) (status : Status) → e ≡ f
    → IsWorked (WithNumber (IsShopAnswer e)) (IsShopAnswerPart e) old new status → IsWorked (WithNumber (IsShopAnswer f)) (IsShopAnswerPart f) old new status
emitted_as e f old new status is h = subst (λ (u : Emit). IsWorked (WithNumber (IsShopAnswer u)) (IsShopAnswerPart u) old new status) is h
