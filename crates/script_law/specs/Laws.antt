-- What holds of what is written of a script that asks once.
use Rattle.std.specs.Prelude.{◌≡◌, ℕ, List, [], ◌∷◌, ◌++◌}
use Rattle.smt_sexpr.specs.Tree.{Sexpr}
use Rattle.cert_text.specs.declared.entry.Entry.{Entry}
use Rattle.cert_text.specs.declared.entry.Version.{Version}
use Rattle.idl_term.specs.Contexts.{Context}
use Rattle.smt_script.specs.declared.state.Question.{Question}
use Rattle.smt_script.specs.States.{State}
use Rattle.dtp_entry.specs.declared.report.Report.{Report}
use Rattle.dtp_entry.specs.declared.report.Report.TheVariants.{Certificate}
use Rattle.dtp_entry.specs.Reports.{version_of}
use Rattle.dtp_entry.specs.Transcripts.{Decides, Output, IsOutput, IsReport}
use Rattle.dtp_check.specs.declared.judgement.Judgement.TheVariants.{Accepted}
use Rattle.dtp_check.specs.Judged.{IsJudged}
use Rattle.script_law.specs.Told.{AsksOnce}

-- no command is refused, and the one entry decides the question
pub record IsDecided (report : Report) (ask : Sexpr) (question : Question) (c : Context) (out : Output) : Type 0 where
  pub status : out.status ≡ 0
  pub entry : Entry
  pub found : out.found ≡ entry ∷ []
  pub decides : Decides (version_of report) question ask c entry

-- so it is in the transcript of the script, and in its certificate
abbrev pub OneQuestionIsDecided : Type 0
OneQuestionIsDecided =
    (script : List ℕ) (done : List Sexpr) (ask : Sexpr) (question : Question) (t : State) → AsksOnce script done ask question t
    → (report : Report) (out : Output) → IsOutput report script out → IsDecided report ask question t.context out

-- and the script is accepted with its certificate behind it
abbrev pub CertificateIsAccepted : Type 0
CertificateIsAccepted =
    (script : List ℕ) (done : List Sexpr) (ask : Sexpr) (question : Question) (t : State) → AsksOnce script done ask question t
    → (version : Version) (certificate : List ℕ) (status : ℕ) → IsReport (Certificate version) script certificate status
    → IsJudged (script ++ certificate) Accepted
