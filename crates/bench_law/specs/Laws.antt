-- What the laws of the scripts of `bench` say.
use Rattle.std.specs.Prelude.{◌≡◌, ◌<◌, ◌≤◌, ◌^◌, ℕ, List, [], ◌∷◌, ◌++◌, ◌*◌}
use Rattle.cert_text.specs.declared.entry.Entry.{Entry}
use Rattle.dtp_gen.specs.Plans.{Plan}
use Rattle.dtp_gen.specs.Scripts.{script}
use Rattle.dtp_entry.specs.declared.report.Report.{Report}
use Rattle.cert_text.specs.declared.entry.Version.TheVariants.{One}
use Rattle.dtp_entry.specs.declared.report.Report.TheVariants.{Certificate}
use Rattle.dtp_entry.specs.Transcripts.{Output, IsOutput, IsReport}
use Rattle.script_counts.specs.Counting.{AreCounts}
use Rattle.script_counts.specs.declared.counting.ScriptCounts.{ScriptCounts}
use Rattle.dtp_check.specs.declared.judgement.Judgement.TheVariants.{Accepted}
use Rattle.dtp_check.specs.Judged.{IsJudged}

-- of each plan that `bench` takes, whatever its draws are
abbrev pub ForEachPlan : (Plan → Type 0) → Type 0
ForEachPlan Says = (p : Plan) → p.jobs ≤ 40 → 1 ≤ p.machines → p.machines ≤ 40 → p.deadline < 2 ^ 32 → Says p

-- no command is refused, and one check-sat is decided
pub record EndsWell (out : Output) : Type 0 where
  pub status : out.status ≡ 0
  pub found : (entry : Entry) × (out.found ≡ entry ∷ [])

-- so it is in the transcript of the plan's script, and in its certificate
abbrev pub ScriptHasNoError : Type 0
ScriptHasNoError =
    ForEachPlan (λ p. (report : Report) (out : Output) → IsOutput report (script p) out → EndsWell out)

-- and the script is accepted with its certificate behind it
abbrev pub CertificateIsAccepted : Type 0
CertificateIsAccepted =
    ForEachPlan (λ p. (certificate : List ℕ) (status : ℕ) → IsReport (Certificate One) (script p) certificate status
    → IsJudged (script p ++ certificate) Accepted)

-- the names that are declared before its check-sat are the operations
abbrev pub NamesAreOperations : Type 0
NamesAreOperations =
    ForEachPlan (λ p. (counts : ScriptCounts) → AreCounts (script p) counts
    → counts.names ≡ p.jobs * p.machines)
