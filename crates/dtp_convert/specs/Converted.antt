-- What `convert` writes of a script with its certificate: where the two are accepted a certificate, of the first version, of
-- the commands that stand there, and else the line that refuses them.
use Rattle.std.specs.Prelude.{◌≡◌, ◌≢◌, ◌⊎◌, ℕ, List, [], ◌++◌}
use Rattle.smt_sexpr.specs.Tree.{Sexpr}
use Rattle.cert_text.specs.declared.entry.Version.{Version}
use Rattle.cert_text.specs.declared.entry.Version.TheVariants.{One}
use Rattle.cert_text.specs.declared.entry.Entry.{Entry}
use Rattle.cert_text.specs.declared.entry.FileEntry.{FileEntry}
use Rattle.cert_read.specs.Certificates.{certificate}
use Rattle.dtp_entry.specs.declared.report.Report.TheVariants.{Certificate}
use Rattle.dtp_entry.specs.Transcripts.{opening, pieces}
use Rattle.dtp_entry.specs.Written.{IsFront}
use Rattle.dtp_check.specs.declared.check.Checked.{Checked}
use Rattle.dtp_check.specs.declared.check.Checked.TheVariants as checked
use Rattle.dtp_check.specs.declared.judgement.Judgement.{Judgement}
use Rattle.dtp_check.specs.declared.judgement.Judgement.TheVariants.{Accepted}
use Rattle.dtp_check.specs.declared.script_part.PartEnd.{PartEnd}
use Rattle.dtp_check.specs.Judged.{ScriptPart, CertificateBehind, turns_with, IsJudged}
use Rattle.dtp_check.specs.Texts.{judgement_line}
use Rattle.dtp_convert.specs.Turns.{turns_of, AreConverted, AreShown}

-- The text is the certificate, of the first version, of the commands of the script's part of the source, none of which is
-- refused. Its entries are what becomes of those of the source's certificate.
pub record IsConverted (bytes text : List ℕ) : Type 0 where
  pub commands : List Sexpr
  pub end : PartEnd
  pub behind : ℕ
  pub script : ScriptPart bytes 0 commands end behind
  pub version : Version
  pub given : List FileEntry
  pub reads : CertificateBehind bytes end behind (certificate version given)
  pub entries : List Entry
  pub decide : AreConverted commands entries
  pub stay : AreShown [] (turns_with given commands) entries
  pub is : text ≡ opening (Certificate One) ++ pieces (Certificate One) (turns_of commands entries)

-- what is answered
abbrev pub IsConversion : List ℕ → List ℕ → Checked → Type 0
IsConversion bytes text checked.Accepted = IsJudged bytes Accepted × IsConverted bytes text
IsConversion bytes text checked.NotAccepted =
    (judgement : Judgement) × IsJudged bytes judgement × (judgement ≢ Accepted) × (text ≡ judgement_line judgement)

-- nothing, or a front of that
abbrev pub IsConversionPart : List ℕ → List ℕ → Type 0
IsConversionPart bytes written =
    (written ≡ [])
    ⊎ ((text : List ℕ) × (checked : Checked) × IsConversion bytes text checked × IsFront written text)
