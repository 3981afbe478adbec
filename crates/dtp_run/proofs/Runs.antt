-- What the record of a run comes to, where the source tells its bytes.
use Rattle.std.proofs.Common.{◌≡◌, ◌≢◌, ◌≤◌, ℕ, List, ◌++◌, length, Option, Some, None, Result, Ok, Err, refl, sym, ap, subst, inl, inr, ◌∙◌, append-nil, arith, length-append}
use Rattle.std.proofs.lemmas.List.{append_cancel_left}
use Rattle.std.specs.Io.KnownBytes.{Consumes, Appends, IsAtEnd}
use Rattle.command_line.specs.declared.line.Line.{Line}
use Rattle.command_line.specs.declared.line.Line.TheVariants.{Solve, Certify, Check, Convert, Bench, Jobshop}
use Rattle.dtp_entry.specs.Laws.{OneVerdict, OneTranscriptButGaps}
use Rattle.dtp_entry.specs.Transcripts.{IsReport, IsReportPart, lines_with_gaps}
use Rattle.dtp_entry.specs.declared.report.Report.{Report}
use Rattle.dtp_entry.specs.declared.report.Report.TheVariants.{Verdicts, Certificate}
use Rattle.dtp_check.specs.Answered.{IsAnswer, checked_of}
use Rattle.dtp_check.specs.Judged.{IsJudged}
use Rattle.dtp_check.specs.declared.check.Checked.{Checked}
use Rattle.dtp_check.specs.declared.check.Checked.TheVariants.{Accepted, NotAccepted as Unaccepted}
use Rattle.dtp_check.specs.declared.judgement.Judgement.{Judgement}
use Rattle.dtp_check.specs.declared.judgement.Judgement.TheVariants as judgement
use Rattle.cert_text.specs.declared.entry.Version.TheVariants.{One}
use Rattle.job_shop.specs.declared.fault.JobRefusal.{JobRefusal}
use Rattle.job_shop.specs.Shops.{Shop, IsShop}
use Rattle.job_shop.specs.Instances.{shop_in}
use Rattle.job_shop.specs.Scripts.{script as shop_script}
use Rattle.shop_law.specs.Laws.{ShopIsAccepted}
use Rattle.dtp_jobshop.specs.declared.emit.Emit.{Emit}
use Rattle.dtp_jobshop.specs.declared.emit.Emit.TheVariants as emit
use Rattle.dtp_jobshop.specs.Jobshops.{IsEmitted, IsAnswerTo, IsShopAnswer}
use Rattle.dtp_run.specs.declared.status.Status.{Status}
use Rattle.dtp_run.specs.declared.status.Status.TheVariants.{Done, Refused, Usage, ReadFault, WriteFault, OutOfMemory, NotAccepted, TooLong}
use Rattle.dtp_run.specs.Statuses.{code_of}
use Rattle.dtp_run.specs.Outcomes.{version_of, input_limit, Outside, IsInput, IsOutcome, IsWorked, WithNumber, WritesOf}
use Rattle.dtp_run.specs.Laws.{Runs, Gives, Answers, LinesOfOneThread, report_of, VerdictsOfOneThread, CertifiedIsNotRefused, AcceptsOrFails, ConvertedIsNotRefused, AcceptedSaysNothingFalse, ShopIsNotRefused}
use Rattle.dtp_convert.specs.Converted.{IsConversion}
use Rattle.dtp_convert.specs.Laws.{ConvertedIsAccepted}
use Rattle.dtp_check.specs.Laws.{CertifiedIsAccepted, OneJudgement, NothingFalseIsAccepted}

-- the status of a number
done : (status : Status) → 0 ≡ code_of status → status ≡ Done
done Done e = refl
done Refused e = absurd (omega (arith, e))
done Usage e = absurd (omega (arith, e))
done ReadFault e = absurd (omega (arith, e))
done WriteFault e = absurd (omega (arith, e))
done OutOfMemory e = absurd (omega (arith, e))
done NotAccepted e = absurd (omega (arith, e))
done TooLong e = absurd (omega (arith, e))

not_accepted : (status : Status) → 6 ≡ code_of status → status ≡ NotAccepted
not_accepted Done e = absurd (omega (arith, e))
not_accepted Refused e = absurd (omega (arith, e))
not_accepted Usage e = absurd (omega (arith, e))
not_accepted ReadFault e = absurd (omega (arith, e))
not_accepted WriteFault e = absurd (omega (arith, e))
not_accepted OutOfMemory e = absurd (omega (arith, e))
not_accepted NotAccepted e = refl
not_accepted TooLong e = absurd (omega (arith, e))

-- the outcome of a run by its line and its status
ends_as : {line : Line} {input : List ℕ} {old new : Outside} {code : ℕ} (status : Status)
    → (r : Runs line input old new code) → r.run.status ≡ status → IsOutcome (Some line) old new status
ends_as {line} {input} {old} {new} status r same =
    let outcome = subst (λ (o : Option Line). IsOutcome o old new r.run.status) r.asks r.run.outcome in
    subst (λ (s : Status). IsOutcome (Some line) old new s) same outcome

none_apart : {A : Type 0} (x : A) → ◌≡◌ {A = Option A} None (Some x) → ⊥
none_apart x e = cc

ok_same : (s t : Shop) → ◌≡◌ {A = Result Shop JobRefusal} (Ok s) (Ok t) → s ≡ t
ok_same s t e = cc

-- the bytes that a source had are those that were read
taken_by : (left now : Option (List ℕ)) (input bytes : List ℕ) → left ≡ Some input → Consumes left now bytes
    → IsAtEnd now → bytes ≡ input
taken_by None now input bytes is taken ends = cc
taken_by (Some xs) None input bytes is taken ends = absurd taken
taken_by (Some xs) (Some ys) input bytes is taken ends =
    let whole : xs ≡ bytes = taken ∙ ap (λ z. bytes ++ z) ends ∙ append-nil bytes in
    cc

pub input_of : {old new : Outside} {input bytes : List ℕ} → old.left ≡ Some input → IsInput old new bytes
    → bytes ≡ input
input_of {old} {new} {input} {bytes} is i = taken_by old.left new.left input bytes is i.consumed i.ended

-- what was added to what the sink held
added_by : (old new : Option (List ℕ)) (held added out : List ℕ) → old ≡ Some held
    → new ≡ Some (held ++ added) → Appends old new out → out ≡ added
added_by None new held added out before now h = cc
added_by (Some xs) None held added out before now h = absurd h
added_by (Some xs) (Some ys) held added out before now h =
    let was : xs ≡ held = cc in
    let is : ys ≡ held ++ added = cc in
    append_cancel_left held out added (ap (λ z. z ++ out) (sym was) ∙ sym h ∙ is)

-- what a run that ended well wrote is of the script, and says this of it
module _ (Says : List ℕ → List ℕ → Type 0) (script text : List ℕ) (old new : Outside) (has : old.left ≡ Some script) (gives : Gives text old new) where
  written_of : WritesOf Says old new → Says script text
  written_of (read, out, input, appends, says) =
      let first : read ≡ script = input_of has input in
      let second : out ≡ text = added_by old.holds new.holds gives.held text out gives.before gives.now appends in
      subst (Says script) second (subst (λ (z : List ℕ). Says z out) first says)

-- the source was judged so, and the call's end is that of the judgement
abbrev IsEnd : List ℕ → Checked → Type 0
IsEnd source checked = (j : Judgement) × IsJudged source j × (checked ≡ checked_of j)

is_judged : (checked : Checked) (source : List ℕ) (old new : Outside) → old.left ≡ Some source
    → WritesOf (λ input text. IsAnswer input text checked) old new → IsEnd source checked
is_judged checked source old new has (read, line, input, appends, (j, judged, text, end)) =
    (j, subst (λ z. IsJudged z j) (input_of has input) judged, end)

-- a source that is accepted by the definition isn't refused
never_refused : (source : List ℕ) (old new : Outside) (code : ℕ) → OneJudgement → IsJudged source judgement.Accepted → Runs Check source old new code → code ≢ 6
never_refused source old new code one good checked six =
    let refused =
    ends_as NotAccepted checked (not_accepted checked.run.status (sym six ∙ checked.run.code_is)) in
    let bad : IsEnd source Unaccepted = is_judged Unaccepted source old new checked.has refused in
    let same : bad.0 ≡ judgement.Accepted = one source bad.0 judgement.Accepted bad.1 good in
    let end : Unaccepted ≡ Accepted = bad.2 ∙ ap (λ j. checked_of j) same in
    cc

pub not_refused : CertifiedIsAccepted → OneJudgement → CertifiedIsNotRefused
not_refused accepted one search format script certificate a b c d code whole written gives checked =
    let reported = ends_as Done written (done written.run.status written.run.code_is) in
    let version = version_of format in
    let report : IsReport (Certificate version) script certificate 0 =
    written_of (λ input text. IsReport (Certificate version) input text 0) script certificate a b written.has gives reported in
    never_refused (script ++ certificate) c d code one (accepted version script certificate report whole) checked

accepted_is_judged : (source : List ℕ) (j : Judgement) → IsJudged source j → Accepted ≡ checked_of j
    → IsJudged source judgement.Accepted
accepted_is_judged source judgement.Accepted judged e = judged
accepted_is_judged source (judgement.Script k kind) judged e = cc
accepted_is_judged source (judgement.Certificate why) judged e = cc
accepted_is_judged source (judgement.Missing k) judged e = cc
accepted_is_judged source (judgement.Entry k flaw) judged e = cc
accepted_is_judged source (judgement.Surplus k) judged e = cc

pub accepted_says : NothingFalseIsAccepted → AcceptedSaysNothingFalse
accepted_says nothing_false source a b checked =
    let done_so = ends_as Done checked (done checked.run.status checked.run.code_is) in
    let ended = is_judged Accepted source a b checked.has done_so in
    nothing_false source (accepted_is_judged source ended.0 ended.1 ended.2)

-- ---- a source within the limit

-- what was taken was there
taken_within : (left now : Option (List ℕ)) (input bytes : List ℕ) → left ≡ Some input → Consumes left now bytes → length bytes ≤ length input
taken_within None now input bytes is taken = absurd (none_apart input is)
taken_within (Some xs) None input bytes is taken = absurd taken
taken_within (Some xs) (Some ys) input bytes is taken =
    let same : xs ≡ input = cc in
    let whole : length input ≡ length (bytes ++ ys) = ap (λ (l : List ℕ). length l) (sym same ∙ taken) in
    omega (arith, whole, length-append bytes ys)

module _ (source : List ℕ) (old new : Outside) (code : ℕ) (has : old.left ≡ Some source) (within : length source ≤ input_limit) where
  accepts_by : (status : Status) → code ≡ code_of status → code ≢ 6 → IsOutcome (Some Check) old new status → AcceptsOrFails code
  accepts_by Done e apart h = inl e
  accepts_by Refused e apart (read, line, input, appends, says) = absurd says
  accepts_by Usage e apart h = absurd h
  accepts_by ReadFault e apart h = inr (omega (arith, e), omega (arith, e))
  accepts_by WriteFault e apart h = inr (omega (arith, e), omega (arith, e))
  accepts_by OutOfMemory e apart h = inr (omega (arith, e), omega (arith, e))
  accepts_by NotAccepted e apart h = absurd (apart e)
  accepts_by TooLong e apart h =
      let took = h.stops.0 in
      let some = taken_within old.left new.left source took.0 has took.1 in
      absurd (omega (arith, within, some, took.2))

pub converted_not_refused : ConvertedIsAccepted → OneJudgement → ConvertedIsNotRefused
converted_not_refused accepted one source script certificate a b c d code is written gives checked =
    let converts = ends_as Done written (done written.run.status written.run.code_is) in
    let conversion : IsConversion source certificate Accepted =
    written_of (λ input text. IsConversion input text Accepted) source certificate a b written.has gives converts in
    let whole = script ++ certificate in
    let apart = never_refused whole c d code one (accepted source script certificate conversion.1 is) checked in
    let ended = ends_as checked.run.status checked refl in
    (apart, λ within. accepts_by whole c d code checked.has within checked.run.status checked.run.code_is apart ended)

-- ---- job shops

-- what stands for a job shop's numbers, and that they are one
abbrev IsOfShop : List ℕ → (Shop → Type 0) → Type 0
IsOfShop input Says = (s : Shop) × (shop_in input ≡ Ok s) × IsShop s × Says s

of_shop : (e : Emit) (input text : List ℕ) → IsShopAnswer e input text 0 → IsOfShop input (λ s. IsEmitted e s text)
of_shop e input text h = of_result e text (shop_in input) refl h where
  of_result : (e : Emit) (text : List ℕ) (r : Result Shop JobRefusal) → shop_in input ≡ r → IsAnswerTo e r text 0 → IsOfShop input (λ s. IsEmitted e s text)
  of_result e text (Ok s) is h = (s, is, h.1, h.2)
  of_result e text (Err why) is h = absurd (omega (arith, h.0))

pub shop_not_refused : ShopIsAccepted → OneJudgement → ShopIsNotRefused
shop_not_refused accepted one few many input script certificate a b c d e f code wrote gives wrote_too gives_too checked =
    let first = of_shop emit.Script input script (written_of (λ bytes text. IsShopAnswer emit.Script bytes text 0) input script a b wrote.has gives
    (ends_as Done wrote (done wrote.run.status wrote.run.code_is))) in
    let second = of_shop emit.Certificate input certificate (written_of (λ bytes text. IsShopAnswer emit.Certificate bytes text 0) input certificate c d wrote_too.has gives_too
    (ends_as Done wrote_too (done wrote_too.run.status wrote_too.run.code_is))) in
    let same : second.0 ≡ first.0 = ok_same second.0 first.0 (sym second.1 ∙ first.1) in
    let report : IsReport (Certificate One) (shop_script first.0) certificate 0 = subst (λ (s : Shop). IsReport (Certificate One) (shop_script s) certificate 0) same second.3 in
    let judged : IsJudged (script ++ certificate) judgement.Accepted =
    subst (λ (l : List ℕ). IsJudged (l ++ certificate) judgement.Accepted) (sym first.3) (accepted first.0 first.2 certificate 0 report) in
    never_refused (script ++ certificate) e f code one judged checked

-- ---- one thread and many

-- a run of a line that writes a report, and ended well, wrote a whole one
module _ (report : Report) (script text : List ℕ) (old new : Outside) (code : ℕ) (has : old.left ≡ Some script) (gives : Gives text old new) (well : code ≤ 1) where
  report_by : (status : Status) → code ≡ code_of status → IsWorked (WithNumber (IsReport report)) (IsReportPart report) old new status → IsReport report script text code
  report_by Done e h = subst (IsReport report script text) (sym e) (written_of (λ input text. IsReport report input text 0) script text old new has gives h)
  report_by Refused e h = subst (IsReport report script text) (sym e) (written_of (λ input text. IsReport report input text 1) script text old new has gives h)
  report_by Usage e h = absurd h
  report_by ReadFault e h = absurd (omega (arith, e, well))
  report_by WriteFault e h = absurd (omega (arith, e, well))
  report_by OutOfMemory e h = absurd (omega (arith, e, well))
  report_by NotAccepted e h = absurd (omega (arith, e, well))
  report_by TooLong e h = absurd (omega (arith, e, well))

reported : (report : Report) (line : Line) (script text : List ℕ) (code : ℕ) → report_of line ≡ Some report → Answers line script text code → IsReport report script text code
reported report (Solve search) script text code e h =
    let same : Verdicts ≡ report = cc in
    let ended = ends_as h.runs.run.status h.runs refl in
    subst (λ (r : Report). IsReport r script text code) same (report_by Verdicts script text h.old h.new code h.runs.has h.gives h.well h.runs.run.status h.runs.run.code_is ended)
reported report (Certify search format) script text code e h =
    let same : Certificate (version_of format) ≡ report = cc in
    let ended = ends_as h.runs.run.status h.runs refl in
    subst (λ (r : Report). IsReport r script text code) same (report_by (Certificate (version_of format)) script text h.old h.new code h.runs.has h.gives h.well h.runs.run.status h.runs.run.code_is ended)
reported report Check script text code e h = absurd (none_apart report e)
reported report Convert script text code e h = absurd (none_apart report e)
reported report (Bench shop workers) script text code e h = absurd (none_apart report e)
reported report (Jobshop search emit) script text code e h = absurd (none_apart report e)

pub same_lines : OneTranscriptButGaps → LinesOfOneThread
same_lines law few many script one other m n h k =
    let first = reported Verdicts (Solve few) script one m refl h in
    let second = reported Verdicts (Solve many) script other n refl k in
    let same = law script (record { text = one; found = first.0; status = m }) (record { text = other; found = second.0; status = n }) first.1 second.1 in
    (same.1, (lines_with_gaps first.1.turns, (first.0, first.1, refl), (second.0, second.1, sym same.0)))

pub same_verdicts : OneVerdict → VerdictsOfOneThread
same_verdicts law line other_line r q script one other m n e h f k =
    let first = reported r line script one m e h in
    let second = reported q other_line script other n f k in
    let same = law script r q (record { text = one; found = first.0; status = m }) (record { text = other; found = second.0; status = n }) first.1 second.1 in
    (same.1, (first.0, second.0, first.1, second.1, same.0, same.2))
