-- Of turns that used one entry, a best value, the last minimize came to that value.
use Rattle.std.proofs.Common.{refl, sym, ap, subst, inl, inr, ◌∙◌, ◌≡◌, ◌⊎◌, ℕ, List, [], ◌∷◌, drop, Option, Some, None, ℤ}
use Rattle.std.specs.List.{AllByRecursion}
use Rattle.smt_sexpr.specs.Tree.{Sexpr}
use Rattle.stn_core.specs.declared.named.NamedValue.{NamedValue}
use Rattle.refute_tree.specs.declared.lemma.Lemma.{Lemma}
use Rattle.cert_text.specs.declared.entry.Entry.{Entry}
use Rattle.cert_text.specs.declared.entry.Entry.TheVariants.{Best}
use Rattle.smt_script.specs.declared.state.Question.{Question}
use Rattle.smt_script.specs.declared.state.Question.TheVariants.{CheckSat, Minimize}
use Rattle.smt_script.specs.States.{State}
use Rattle.script_walk.specs.Course.{Turn, Outcome, tells, answers, asks, ends, fails, with_answer, answers_of, IsFitBy}
use Rattle.dtp_entry.specs.declared.report.Report.{Report}
use Rattle.dtp_entry.specs.Reports.{version_of}
use Rattle.dtp_entry.specs.Transcripts.{DecidesIn, IsLegal}
use Rattle.dtp_entry.specs.declared.report.Report.TheVariants.{Verdicts}
use Rattle.dtp_session.specs.declared.least.Minimum.{Minimum}
use Rattle.dtp_session.specs.Leasts.{minimum_by, last_minimum, least_by, IsLeastOf}
use Rattle.job_shop.specs.Shops.{Shop, IsShop}
use Rattle.job_shop.specs.Plans.{IsLeastPlan}
use Rattle.job_shop.specs.Scripts.{script}
use Rattle.script_law.specs.Ints.{whole_numbers}
use Rattle.shop_law.specs.Laws.{ShopIsAnswered}
use Rattle.dtp_jobshop.specs.code.Starts.{numbers_of}
use Rattle.dtp_jobshop.proofs.Numbers.{numbers_back}

-- ---- turns without an entry

no_more_by : (o : Outcome Entry) (rest : List Entry) → with_answer o rest ≡ [] → (last : Option Minimum) → (minimum_by last o ≡ last) × (rest ≡ [])
no_more_by (tells x notice) rest e last = (refl, e)
no_more_by (answers question x entry) rest e last = cc
no_more_by (asks question x) rest e last = (refl, e)
no_more_by ends rest e last = (refl, e)
no_more_by (fails kind) rest e last = (refl, e)

no_more : (turns : List (Turn Entry)) → answers_of turns ≡ [] → (last : Option Minimum) → last_minimum last turns ≡ last
no_more [] e last = refl
no_more (t ∷ ts) e last =
    let first = no_more_by t.outcome (answers_of ts) e last in
    ap (λ (m : Option Minimum). last_minimum m ts) first.0 ∙ no_more ts first.1 last

-- ---- turns with one

module _ (report : Report) (m : ℤ) (schedule : List NamedValue) (lemmas : List Lemma) where
  abbrev best : Entry
  best = Best m schedule lemmas

  abbrev minimum : Option Minimum
  minimum = Some (record { value = m; schedule = schedule })

  -- the turn has the entry, or those behind it have
  abbrev IsFirst : Outcome Entry → List Entry → Option Minimum → Type 0
  IsFirst o rest last = ((minimum_by last o ≡ last) × (rest ≡ best ∷ [])) ⊎ ((minimum_by last o ≡ minimum) × (rest ≡ []))

  at_question : (question : Question) (x : Sexpr) (s : State) (rest : List Entry) (last : Option Minimum) → DecidesIn (version_of report) question x s best → rest ≡ []
      → IsFirst (answers question x best) rest last
  at_question CheckSat x s rest last decides e = absurd decides.right.right
  at_question (Minimize o) x s rest last decides e = inr (refl, e)

  heads : (entry : Entry) (rest : List Entry) → entry ∷ rest ≡ best ∷ [] → (entry ≡ best) × (rest ≡ [])
  heads entry rest e = (cc, cc)

  one_by : (s : State) (o : Outcome Entry) (rest : List Entry) → IsFitBy (DecidesIn (version_of report)) s o → with_answer o rest ≡ best ∷ [] → (last : Option Minimum) → IsFirst o rest last
  one_by s (tells x notice) rest fit e last = inl (refl, e)
  one_by s (answers question x entry) rest fit e last =
      let same = heads entry rest e in
      subst (λ (a : Entry). IsFirst (answers question x a) rest last) (sym same.0)
      (at_question question x s rest last (subst (λ (a : Entry). DecidesIn (version_of report) question x s a) same.0 fit) same.1)
  one_by s (asks question x) rest fit e last = absurd fit
  one_by s ends rest fit e last = inl (refl, e)
  one_by s (fails kind) rest fit e last = inl (refl, e)

  behind : (ts : List (Turn Entry)) (o : Outcome Entry) (last : Option Minimum) → (answers_of ts ≡ best ∷ [] → last_minimum last ts ≡ minimum) → IsFirst o (answers_of ts) last
      → last_minimum (minimum_by last o) ts ≡ minimum
  behind ts o last more (inl (same, e)) = ap (λ (n : Option Minimum). last_minimum n ts) same ∙ more e
  behind ts o last more (inr (is, over)) = ap (λ (n : Option Minimum). last_minimum n ts) is ∙ no_more ts over minimum

  one_best : (turns : List (Turn Entry)) → AllByRecursion (IsLegal report) turns → answers_of turns ≡ best ∷ [] → (last : Option Minimum) → last_minimum last turns ≡ minimum
  one_best [] legal e last = cc
  one_best (t ∷ ts) (first, legal) e last =
      behind ts t.outcome last (λ more. one_best ts legal more last) (one_by t.state t.outcome (answers_of ts) first e last)

-- ---- the script of a job shop

-- what its minimize comes to: a plan than which none is better
pub record IsMinimumOf (s : Shop) (least : Option Minimum) : Type 0 where
  pub m : ℤ
  pub starts : List ℤ
  pub plan : IsLeastPlan s starts m
  pub is : least ≡ Some (record { value = m; schedule = whole_numbers (m ∷ starts) })

pub minimum_is : ShopIsAnswered → (s : Shop) → IsShop s → (least : Option Minimum) → IsLeastOf (script s) least → IsMinimumOf s least
minimum_is answered s is least (out, h, found) =
    let a = answered s is Verdicts out h in
    record {
      m = a.m;
      starts = a.starts;
      plan = a.plan;
      is = found ∙ ap (λ (n : ℕ). least_by n h.turns) a.status
          ∙ one_best Verdicts a.m (whole_numbers (a.m ∷ a.starts)) a.lemmas h.turns h.are.legal (h.used ∙ a.found) None;
    }

pub found_is : ShopIsAnswered → (s : Shop) → IsShop s → (bytes : List ℕ) → bytes ≡ script s → (least : Option Minimum) → IsLeastOf bytes least → IsMinimumOf s least
found_is answered s is bytes same least h = minimum_is answered s is least (subst (λ (b : List ℕ). IsLeastOf b least) same h)

-- there is one
pub never_none : (s : Shop) (least : Option Minimum) → IsMinimumOf s least → least ≡ None → ⊥
never_none s least h none =
    let same : ◌≡◌ {A = Option Minimum} None (Some (record { value = h.m; schedule = whole_numbers (h.m ∷ h.starts) })) = sym none ∙ h.is in
    cc

some_same : (a b : Minimum) → ◌≡◌ {A = Option Minimum} (Some a) (Some b) → a ≡ b
some_same a b e = cc

-- its schedule is the makespan, and behind it the plan
pub plan_found : (s : Shop) (least : Option Minimum) → IsMinimumOf s least → (minimum : Minimum) → least ≡ Some minimum → (starts : List ℤ)
    → starts ≡ numbers_of (drop 1 minimum.schedule) → IsLeastPlan s starts minimum.value
plan_found s least h minimum is starts back =
    let same = some_same minimum (record { value = h.m; schedule = whole_numbers (h.m ∷ h.starts) }) (sym is ∙ h.is) in
    let there : starts ≡ h.starts = back ∙ ap (λ (n : Minimum). numbers_of (drop 1 n.schedule)) same ∙ numbers_back h.starts in
    let value : minimum.value ≡ h.m = ap (λ (n : Minimum). n.value) same in
    subst (λ (ss : List ℤ). IsLeastPlan s ss minimum.value) (sym there) (subst (λ (m : ℤ). IsLeastPlan s h.starts m) (sym value) h.plan)
