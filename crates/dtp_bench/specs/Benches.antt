-- What is written about a job shop: its script's counts, the verdict of its certificate, and that the certificate is accepted.
use Rattle.std.specs.Prelude.{◌≡◌, ℕ, List, [], ◌∷◌, ◌++◌}
use Rattle.cert_text.specs.declared.entry.Version.TheVariants.{One}
use Rattle.cert_text.specs.declared.entry.Entry.{Entry}
use Rattle.dtp_gen.specs.Plans.{Plan}
use Rattle.dtp_gen.specs.Scripts.{script}
use Rattle.script_counts.specs.Counting.{AreCounts}
use Rattle.script_counts.specs.declared.counting.ScriptCounts.{ScriptCounts}
use Rattle.dtp_entry.specs.declared.report.Report.TheVariants.{Certificate}
use Rattle.dtp_entry.specs.Entries.{verdict_of}
use Rattle.dtp_entry.specs.Transcripts.{IsOutput}
use Rattle.dtp_check.specs.declared.judgement.Judgement.TheVariants.{Accepted}
use Rattle.dtp_check.specs.Judged.{IsJudged}
use Rattle.dtp_bench.specs.Lines.{bench_text}
use Rattle.dtp_bench.specs.declared.numbers.PlanNumbers.{PlanNumbers}

-- the plan with these numbers
abbrev pub plan_of : PlanNumbers → Plan
plan_of n = record { jobs = n.jobs; machines = n.machines; start = n.start; deadline = n.deadline }

-- the certificate, of the first version, of a script without an error and with one check-sat, which this entry decides
abbrev pub IsDecidedBy : List ℕ → List ℕ → Entry → Type 0
IsDecidedBy script certificate entry =
    IsOutput (Certificate One) script (record { text = certificate; found = entry ∷ []; status = 0 })

-- the five lines about a plan's script
pub record IsBench (p : Plan) (text : List ℕ) : Type 0 where
  pub counts : ScriptCounts
  pub counted : AreCounts (script p) counts
  pub certificate : List ℕ
  pub entry : Entry
  pub decided : IsDecidedBy (script p) certificate entry
  pub accepted : IsJudged (script p ++ certificate) Accepted
  pub is : text ≡ bench_text p counts (verdict_of entry)
