-- What the laws of the scripts of job shops say.
use Rattle.std.specs.Prelude.{◌≡◌, ◌↔◌, ℕ, ◌*◌, ◌++◌, ℤ, pos, ◌≤ℤ◌, List, [], ◌∷◌, length, codes, true, Some}
use Rattle.std.specs.List.{AllByRecursion}
use Rattle.smt_sexpr.specs.Tree.{Sexpr}
use Rattle.stn_core.specs.declared.named.NamedValue.{NamedValue}
use Rattle.refute_tree.specs.declared.lemma.Lemma.{Lemma}
use Rattle.cert_text.specs.declared.entry.Entry.TheVariants.{Best}
use Rattle.cert_text.specs.declared.entry.Version.TheVariants.{One}
use Rattle.idl_term.specs.Contexts.{Context, IsTrueOn}
use Rattle.idl_term.specs.Values.{whole, truth, Named, value}
use Rattle.smt_script.specs.States.{State, start_state}
use Rattle.dtp_entry.specs.declared.report.Report.{Report}
use Rattle.dtp_entry.specs.declared.report.Report.TheVariants.{Certificate}
use Rattle.dtp_entry.specs.Bests.{Satisfies, HasValue, IsBestFor}
use Rattle.dtp_entry.specs.Transcripts.{Output, IsOutput, IsReport}
use Rattle.dtp_check.specs.declared.judgement.Judgement.TheVariants.{Accepted}
use Rattle.dtp_check.specs.Judged.{IsJudged}
use Rattle.job_shop.specs.Shops.{Shop, IsShop}
use Rattle.job_shop.specs.Feasible.{IsFeasible, EndsBy, IsMakespan}
use Rattle.job_shop.specs.Plans.{start_in, IsLeastPlan}
use Rattle.job_shop.specs.Scripts.{each, name, bound, names_of, terms_of, commands_before, commands_of, script}
use Rattle.script_law.specs.Ints.{Stands, whole_numbers, ints_on}
use Rattle.script_law.specs.Told.{Tells, IsRead}

-- ---- what the assertions say

abbrev pub starts_at : (ℕ → ℕ → ℤ) → ℕ → ℕ → List Named
starts_at start j k = record { name = name j k; value = whole (start j k) } ∷ []

abbrev pub starts_in : Shop → (ℕ → ℕ → ℤ) → ℕ → List Named
starts_in s start j = each s.machines (starts_at start j)

-- what the script's names stand for on a schedule: m, and the starts
abbrev pub names_on : Shop → ℤ → (ℕ → ℕ → ℤ) → List Named
names_on s m start = record { name = codes "m"; value = whole m } ∷ each (length s.jobs) (starts_in s start)

abbrev pub IsTrueIn : List Named → Sexpr → Type 0
IsTrueIn env t = value env t ≡ truth true

-- all assertions are true
abbrev pub AllAreTrue : Shop → ℤ → (ℕ → ℕ → ℤ) → Type 0
AllAreTrue s m start = AllByRecursion (IsTrueIn (names_on s m start)) (terms_of s)

-- The schedules that make all assertions true are exactly the feasible plans with a value of m no less than the makespan.
abbrev pub SchedulesArePlans : Type 0
SchedulesArePlans =
    (s : Shop) → IsShop s → (m : ℤ) (start : ℕ → ℕ → ℤ) → AllAreTrue s m start ↔ (IsFeasible s start × EndsBy s start m)

abbrev pub NoLessThanMakespan : Type 0
NoLessThanMakespan =
    (s : Shop) (start : ℕ → ℕ → ℤ) (c m : ℤ) → IsMakespan s start c → (EndsBy s start m ↔ c ≤ℤ m)

-- one value for m and then one for each operation, job after job, are m and the starts
abbrev pub SchedulesAreStarts : Type 0
SchedulesAreStarts =
    (s : Shop) (m : ℤ) (vs : List ℤ) → length vs ≡ length s.jobs * s.machines
    → ints_on (codes "m" ∷ names_of s) (m ∷ vs) ≡ names_on s m (start_in s vs)

-- ---- from bytes on

-- the script's bytes are its commands
abbrev pub ScriptIsRead : Type 0
ScriptIsRead = (s : Shop) → IsShop s → IsRead (script s) 0 (commands_of s)

-- m and the starts are declared, and the script's terms are the assertions
abbrev pub IsContextOf : Shop → Context → Type 0
IsContextOf s c = Stands (codes "m" ∷ names_of s) (terms_of s) c

-- No command before the objective is refused, and so it is behind them.
abbrev pub StateOfScript : Type 0
StateOfScript = (s : Shop) → IsShop s → (t : State) × Tells start_state (commands_before s) t × IsContextOf s t.context

-- there the schedules that make all assertions true are the feasible plans that have ended at m
abbrev pub ScriptMeansPlans : Type 0
ScriptMeansPlans =
    (s : Shop) → IsShop s → (c : Context) → IsContextOf s c → (m : ℤ) (vs : List ℤ) → length vs ≡ length s.jobs * s.machines
    → AllByRecursion (IsTrueOn c (whole_numbers (m ∷ vs))) c.assertions ↔ (IsFeasible s (start_in s vs) × EndsBy s (start_in s vs) m)

-- ---- the least makespan

-- where m is best for the objective, each schedule with that value is m and a least plan, whose makespan is m
abbrev pub BestIsLeastMakespan : Type 0
BestIsLeastMakespan =
    (s : Shop) → IsShop s → (c : Context) → IsContextOf s c → (m : ℤ) → IsBestFor c (Some bound) m
    → (schedule : List NamedValue) → Satisfies c schedule → HasValue c schedule (Some bound) m
    → (starts : List ℤ) × (schedule ≡ whole_numbers (m ∷ starts)) × IsLeastPlan s starts m

-- some schedule makes all assertions true
abbrev pub ScriptIsSatisfiable : Type 0
ScriptIsSatisfiable = (s : Shop) → IsShop s → (c : Context) → IsContextOf s c → (schedule : List NamedValue) × Satisfies c schedule

-- and none gives the objective a value below 0
abbrev pub ObjectiveIsBounded : Type 0
ObjectiveIsBounded =
    (s : Shop) → IsShop s → (c : Context) → IsContextOf s c
    → (schedule : List NamedValue) (m : ℤ) → Satisfies c schedule → HasValue c schedule (Some bound) m → pos 0 ≤ℤ m

-- ---- what is written of the script

-- no command is refused, and the one entry is a best value, with a least plan that has it as its makespan
pub record IsAnsweredBy (s : Shop) (out : Output) : Type 0 where
  pub status : out.status ≡ 0
  pub m : ℤ
  pub starts : List ℤ
  pub lemmas : List Lemma
  pub found : out.found ≡ Best m (whole_numbers (m ∷ starts)) lemmas ∷ []
  pub plan : IsLeastPlan s starts m

-- so it is in the transcript of the script, and in its certificate
abbrev pub ShopIsAnswered : Type 0
ShopIsAnswered = (s : Shop) → IsShop s → (report : Report) (out : Output) → IsOutput report (script s) out → IsAnsweredBy s out

-- and the script is accepted with its certificate behind it
abbrev pub ShopIsAccepted : Type 0
ShopIsAccepted =
    (s : Shop) → IsShop s → (certificate : List ℕ) (status : ℕ) → IsReport (Certificate One) (script s) certificate status
    → IsJudged (script s ++ certificate) Accepted
