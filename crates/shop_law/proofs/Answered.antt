-- What is written of the script of a job shop: a best value, which is the least makespan.
use Rattle.std.proofs.Common.{◌≡◌, ◌∙◌, refl, sym, subst, ap, arith, ℕ, zero, suc, ◌<◌, List, [], ◌∷◌, length, Option, Some, inl, inr, ℤ, pos, negsuc, ◌≤ℤ◌}
use Rattle.std.specs.Prelude.{codes}
use Rattle.std.proofs.lemmas.Bool.{cases_lt}
use Rattle.std.proofs.lemmas.Int.{ints}
use Rattle.smt_sexpr.specs.Tree.{Sexpr}
use Rattle.stn_core.specs.declared.named.NamedValue.{NamedValue}
use Rattle.cert_text.specs.declared.entry.Entry.{Entry}
use Rattle.cert_text.specs.declared.entry.Entry.TheVariants.{Sat, Unsat, Best, Unbounded}
use Rattle.cert_text.specs.declared.entry.Version.{Version}
use Rattle.cert_text.specs.declared.entry.Version.TheVariants.{One}
use Rattle.idl_node.specs.Sorts.{AreOfSorts}
use Rattle.idl_scope.specs.Scopes.{Declaration, sorts_of}
use Rattle.idl_term.specs.Contexts.{Context}
use Rattle.smt_script.specs.Commands.{command_of, naming_command, changing_command, asking_command, minimized}
use Rattle.smt_script.specs.declared.objective.Objective.{Objective}
use Rattle.smt_script.specs.declared.state.Question.TheVariants.{Minimize}
use Rattle.dtp_entry.specs.Bests.{Satisfies, HasValue, IsBestFor, HasNoBest}
use Rattle.dtp_entry.specs.Reports.{version_of}
use Rattle.dtp_entry.specs.Transcripts.{Decides, Output}
use Rattle.job_shop.specs.Shops.{Shop, IsShop}
use Rattle.job_shop.specs.Scripts.{bound, names_of, minimize, commands_before, script}
use Rattle.script_law.specs.Ints.{whole_numbers}
use Rattle.script_law.specs.Laws.{CertificateIsAccepted, OneQuestionIsDecided}
use Rattle.shop_law.specs.Laws.{IsContextOf, SchedulesAreStarts, ScriptMeansPlans, ScriptIsSatisfiable, ObjectiveIsBounded, BestIsLeastMakespan, IsAnsweredBy, ShopIsAnswered, ShopIsAccepted}
use Rattle.shop_law.proofs.Accepted.{stands}
use Rattle.shop_law.proofs.Asking.{asked_in, objective_asked, asks_once}
use Rattle.shop_law.proofs.Least.{all_whole, names_many, objective}

m_is_minimized : minimized minimize ≡ Some bound
unfolding command_of naming_command changing_command asking_command
m_is_minimized = refl

-- ---- there is a best value

least_by : (k n : ℕ) (v : ℤ) → k ≡ n → pos 0 ≤ℤ v → ((j : ℕ) → j < n → v ≡ pos j → ⊥) → pos k ≤ℤ v
least_by k n (pos j) e low none = elim (cases_lt j n) [
  | inl below ↦ absurd (none j below refl)
  | inr high ↦ omega (arith, ints, high, e)
]
least_by k n (negsuc j) e low none = absurd (omega (arith, ints, low))

module _ (means : ScriptMeansPlans) (starts_law : SchedulesAreStarts) (satisfiable : ScriptIsSatisfiable) (bounded : ObjectiveIsBounded) (s : Shop) (is : IsShop s) (c : Context) (h : IsContextOf s c) where
  -- the objective has a value
  valued_by : (schedule : List NamedValue) (vs : List ℤ) → schedule ≡ whole_numbers vs → length vs ≡ length (codes "m" ∷ names_of s) → (v : ℤ) × HasValue c schedule (Some bound) v
  valued_by schedule [] are many = absurd (omega (arith, many))
  valued_by schedule (v ∷ vs) are many =
      (v, subst (λ (l : List NamedValue). HasValue c l (Some bound) v) (sym are) (objective means starts_law s is c h v vs (omega (arith, many, names_many s))))

  valued : (schedule : List NamedValue) → Satisfies c schedule → (v : ℤ) × HasValue c schedule (Some bound) v
  valued schedule sat =
      let sorts = subst (λ (ds : List Declaration). AreOfSorts (sorts_of ds) schedule) h.declared sat.0 in
      let t = all_whole (codes "m" ∷ names_of s) schedule sorts in
      valued_by schedule t.values t.are t.many

  module _ (none : (m : ℤ) → ¬ IsBestFor c (Some bound) m) where
    none_below : (n k : ℕ) → k < n → (schedule : List NamedValue) → Satisfies c schedule → HasValue c schedule (Some bound) (pos k) → ⊥
    none_below zero k l schedule sat is_k = absurd (omega arith)
    none_below (suc n) k l schedule sat is_k = elim (cases_lt k n) [
      | inl below ↦ none_below n k below schedule sat is_k
      | inr high ↦ (let same : k ≡ n = omega (arith, l, high) in
          none (pos k) (record {
            schedule = schedule;
            satisfies = sat;
            attained = is_k;
            least = λ other v other_sat is_v.
                least_by k n v same (bounded s is c h other v other_sat is_v)
                (λ j low e. none_below n j low other other_sat (subst (λ (w : ℤ). HasValue c other (Some bound) w) e is_v));
          }))
    ]

    none_of : (schedule : List NamedValue) (v : ℤ) → Satisfies c schedule → HasValue c schedule (Some bound) v → ⊥
    none_of schedule (pos k) sat is_v = none_below (suc k) k (omega arith) schedule sat is_v
    none_of schedule (negsuc k) sat is_v = let low = bounded s is c h schedule (negsuc k) sat is_v in absurd (omega (arith, ints, low))

    some_best : ⊥
    some_best =
        let w = satisfiable s is c h in
        let v = valued w.0 w.1 in
        none_of w.0 v.0 w.1 v.1

  -- ---- the entry

  module _ (best : BestIsLeastMakespan) (out : Output) (status : out.status ≡ 0) (version : Version) (o : Objective) where
    answered_by : (entry : Entry) → out.found ≡ entry ∷ [] → Decides version (Minimize o) minimize c entry → IsAnsweredBy s out
    answered_by (Sat schedule) e d = absurd d.right.right
    answered_by (Unsat lemmas) e d = let w = satisfiable s is c h in absurd (d.so.0 (w.0, w.1.0, w.1.1))
    answered_by (Best m schedule lemmas) e d =
        let is_best : IsBestFor c (Some bound) m = subst (λ (t : Option Sexpr). IsBestFor c t m) m_is_minimized d.so in
        let attained : HasValue c schedule (Some bound) m = subst (λ (t : Option Sexpr). HasValue c schedule t m) m_is_minimized d.right.right.attained in
        let w = best s is c h m is_best schedule d.right.right.satisfies attained in
        record {
          status = status;
          m = m;
          starts = w.0;
          lemmas = lemmas;
          found = e ∙ ap (λ (l : List NamedValue). Best m l lemmas ∷ []) w.1;
          plan = w.2;
        }
    answered_by (Unbounded values set) e d =
        let no_best : HasNoBest c (Some bound) = subst (HasNoBest c) m_is_minimized d.so in
        absurd (some_best no_best.none_best)

pub shop_is_answered : ScriptMeansPlans → SchedulesAreStarts → ScriptIsSatisfiable → ObjectiveIsBounded → BestIsLeastMakespan → OneQuestionIsDecided → ShopIsAnswered
shop_is_answered means starts_law satisfiable bounded best law s is report out h =
    let d = law (script s) (commands_before s) minimize (Minimize (objective_asked s is)) (asked_in s is) (asks_once s is) report out h in
    answered_by means starts_law satisfiable bounded s is (asked_in s is).context (stands s is) best out d.status (version_of report) (objective_asked s is) d.entry d.found d.decides

pub shop_is_accepted : CertificateIsAccepted → ShopIsAccepted
shop_is_accepted law s is certificate status h =
    law (script s) (commands_before s) minimize (Minimize (objective_asked s is)) (asked_in s is) (asks_once s is) One certificate status h
