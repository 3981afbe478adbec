-- What is written of a job shop's numbers. What a feasible plan is, and its makespan, stands in `job_shop`
-- (Lawler, Lenstra, Rinnooy Kan and Shmoys 1993).
use Rattle.std.specs.Prelude.{◌≡◌, ◌⊎◌, ℕ, List, [], Result, Ok, Err, ℤ}
use Rattle.job_shop.specs.declared.fault.JobRefusal.{JobRefusal}
use Rattle.job_shop.specs.Shops.{Shop, IsShop}
use Rattle.job_shop.specs.Instances.{shop_in, refusal_line}
use Rattle.job_shop.specs.Scripts.{script}
use Rattle.job_shop.specs.PlanTexts.{plan_text}
use Rattle.job_shop.specs.Plans.{IsLeastPlan, start_in}
use Rattle.job_shop.specs.Tight.{IsTight}
use Rattle.cert_text.specs.declared.entry.Version.TheVariants.{One}
use Rattle.dtp_entry.specs.declared.report.Report.TheVariants as report
use Rattle.dtp_entry.specs.Transcripts.{IsReport, IsReportPart}
use Rattle.dtp_entry.specs.Written.{IsPartOf}
use Rattle.dtp_jobshop.specs.declared.emit.Emit.{Emit}
use Rattle.dtp_jobshop.specs.declared.emit.Emit.TheVariants.{Plan, Script, Certificate}
use Rattle.dtp_jobshop.specs.declared.emit.Answered.{Answered}
use Rattle.dtp_jobshop.specs.declared.emit.Answered.TheVariants.{Whole, Refused}

-- of a job shop: a feasible plan with its makespan, than which none has a smaller one, in which no operation can start earlier while
-- those before it stay where they are; the script; or its certificate, which has no error
abbrev pub IsEmitted : Emit → Shop → List ℕ → Type 0
IsEmitted Plan s text = (starts : List ℤ) × (m : ℤ) × IsLeastPlan s starts m × IsTight s (start_in s starts) × (text ≡ plan_text s m starts)
IsEmitted Script s text = text ≡ script s
IsEmitted Certificate s text = IsReport (report.Certificate One) (script s) text 0

-- where it is cut short, a front of it; of a certificate a legal front, behind which the search had gone on
abbrev pub IsEmittedPart : Emit → Shop → List ℕ → Type 0
IsEmittedPart Certificate s text = IsReportPart (report.Certificate One) (script s) text
IsEmittedPart emit s text = IsPartOf (IsEmitted emit s) text

-- numbers that are a job shop are answered with status 0, others by the line of their first fault, with status 1
abbrev pub IsAnswerTo : Emit → Result Shop JobRefusal → List ℕ → ℕ → Type 0
IsAnswerTo emit (Ok s) text status = (status ≡ 0) × IsShop s × IsEmitted emit s text
IsAnswerTo emit (Err why) text status = (status ≡ 1) × (text ≡ refusal_line why)

abbrev pub IsAnswerPartTo : Emit → Result Shop JobRefusal → List ℕ → Type 0
IsAnswerPartTo emit (Ok s) text = IsShop s × IsEmittedPart emit s text
IsAnswerPartTo emit (Err why) text = IsPartOf (λ whole. whole ≡ refusal_line why) text

-- what is written of the bytes, and the status
abbrev pub IsShopAnswer : Emit → List ℕ → List ℕ → ℕ → Type 0
IsShopAnswer emit bytes text status = IsAnswerTo emit (shop_in bytes) text status

-- nothing, or a front of that
abbrev pub IsShopAnswerPart : Emit → List ℕ → List ℕ → Type 0
IsShopAnswerPart emit bytes text = (text ≡ []) ⊎ IsAnswerPartTo emit (shop_in bytes) text

abbrev pub status_of : Answered → ℕ
status_of Whole = 0
status_of Refused = 1
