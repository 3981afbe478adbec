-- What holds of every source.
use Rattle.std.specs.Prelude.{◌≡◌, ◌++◌, ℕ, List}
use Rattle.cert_text.specs.declared.entry.Version.{Version}
use Rattle.dtp_entry.specs.declared.report.Report.TheVariants as report
use Rattle.dtp_entry.specs.Transcripts.{IsReport}
use Rattle.dtp_check.specs.declared.judgement.Judgement.{Judgement}
use Rattle.dtp_check.specs.declared.judgement.Judgement.TheVariants.{Accepted}
use Rattle.dtp_check.specs.Judged.{IsJudged}
use Rattle.dtp_check.specs.Told.{SaysNothingFalse}
use Rattle.dtp_check.specs.Whole.{IsWhole}

-- a source comes to one judgement at most
abbrev pub OneJudgement : Type 0
OneJudgement = (bytes : List ℕ) (i j : Judgement) → IsJudged bytes i → IsJudged bytes j → i ≡ j

-- where a source is accepted, its certificate says nothing false, whoever made it
abbrev pub NothingFalseIsAccepted : Type 0
NothingFalseIsAccepted = (bytes : List ℕ) → IsJudged bytes Accepted → SaysNothingFalse bytes

-- a script is accepted with the certificate that was written of it without an error
abbrev pub CertifiedIsAccepted : Type 0
CertifiedIsAccepted =
    (version : Version) (script out : List ℕ)
    → IsReport (report.Certificate version) script out 0 → IsWhole script → IsJudged (script ++ out) Accepted
