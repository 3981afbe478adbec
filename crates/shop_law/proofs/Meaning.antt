-- What the script's state means.
use Rattle.std.proofs.Common.{◌≡◌, ◌∙◌, refl, sym, ap, subst, ℕ, List, [], ◌∷◌, ℤ}
use Rattle.std.specs.Prelude.{codes}
use Rattle.std.specs.List.{AllByRecursion}
use Rattle.smt_sexpr.specs.Tree.{Sexpr}
use Rattle.idl_scope.specs.Scopes.{Declaration}
use Rattle.idl_term.specs.Contexts.{Context, Definition, declared_values, defined_values, environment, IsTrueOn}
use Rattle.idl_term.specs.Values.{whole, Named}
use Rattle.job_shop.specs.Scripts.{names_of, terms_of}
use Rattle.job_shop.specs.Plans.{start_in}
use Rattle.shop_law.specs.Laws.{names_on, IsTrueIn, SchedulesArePlans, SchedulesAreStarts, ScriptMeansPlans}
use Rattle.script_law.specs.Ints.{ints_on, ints_of, whole_numbers, Stands}

values_are : (xs : List (List ℕ)) (vs : List ℤ) → declared_values (ints_of xs) (whole_numbers vs) ≡ ints_on xs vs
values_are [] vs = refl
values_are (x ∷ xs) [] = refl
values_are (x ∷ xs) (v ∷ vs) = ap (λ (ns : List Named). record { name = x; value = whole v } ∷ ns) (values_are xs vs)

pub environment_is : (xs : List (List ℕ)) (ts : List Sexpr) (c : Context) (vs : List ℤ) → Stands xs ts c → environment c (whole_numbers vs) ≡ ints_on xs vs
environment_is xs ts c vs h =
    ap (λ (ds : List Definition). defined_values (declared_values c.declared (whole_numbers vs)) ds) h.defined
    ∙ ap (λ (ds : List Declaration). declared_values ds (whole_numbers vs)) h.declared ∙ values_are xs vs

pub script_means_plans : SchedulesArePlans → SchedulesAreStarts → ScriptMeansPlans
script_means_plans law starts s is c h m vs count =
    let env : environment c (whole_numbers (m ∷ vs)) ≡ names_on s m (start_in s vs) = environment_is (codes "m" ∷ names_of s) (terms_of s) c (m ∷ vs) h ∙ starts s m vs count in
    let plans = law s is m (start_in s vs) in
    let P : List Named → Type 0 = λ e. AllByRecursion (IsTrueIn e) (terms_of s) in
    let Q : List Sexpr → Type 0 = λ ts. AllByRecursion (IsTrueOn c (whole_numbers (m ∷ vs))) ts in
    (λ t. plans.0 (subst P env (subst Q h.assertions t)), λ p. subst Q (sym h.assertions) (subst P (sym env) (plans.1 p)))
