-- The best value of the objective is the least makespan.
use Rattle.std.proofs.Common.{◌≡◌, ◌∙◌, refl, sym, ap, subst, arith, ℕ, zero, suc, ◌-◌, ◌*◌, ◌<◌, Bool, true, false, List, [], ◌∷◌, length, Some, inl, inr, ℤ, pos, ◌≤ℤ◌}
use Rattle.std.specs.Prelude.{codes, int_le, ◌⊎◌}
use Rattle.std.proofs.lemmas.Int.{ints}
use Rattle.std.proofs.lemmas.Bool.{cases_lt}
use Rattle.stn_core.specs.declared.named.NamedValue.{NamedValue}
use Rattle.stn_core.specs.declared.named.NamedValue.TheVariants as named
use Rattle.idl_node.specs.Sorts.{AreOfSorts}
use Rattle.idl_scope.specs.Scopes.{Declaration, sorts_of}
use Rattle.idl_term.specs.Contexts.{Context, environment}
use Rattle.idl_term.specs.Values.{Value, whole, Named, value}
use Rattle.job_shop.specs.Shops.{Shop, IsShop}
use Rattle.job_shop.specs.Feasible.{IsFeasible, IsMakespan, EndsBy, end}
use Rattle.job_shop.specs.Scripts.{bound, names_of, terms_of}
use Rattle.job_shop.specs.Plans.{start_in, IsPlan, IsLeastPlan}
use Rattle.shop_law.specs.Laws.{names_on, IsContextOf, ScriptMeansPlans, SchedulesAreStarts, BestIsLeastMakespan}
use Rattle.dtp_entry.specs.Bests.{Satisfies, HasValue, IsBestFor}
use Rattle.script_law.specs.Ints.{ints_of, whole_numbers}
use Rattle.script_law.proofs.Starts.{starts_many}
use Rattle.shop_law.proofs.Points.{bound_value}
use Rattle.shop_law.proofs.Meaning.{environment_is}

-- ---- the greatest of some numbers

le_by : (a b : ℤ) (t : Bool) → int_le a b ≡ t → (a ≤ℤ b) ⊎ (b ≤ℤ a)
le_by a b true e = inl (grind (arith, ints, e))
le_by a b false e = inr (grind (arith, ints, e))

le_cases : (a b : ℤ) → (a ≤ℤ b) ⊎ (b ≤ℤ a)
le_cases a b = le_by a b (int_le a b) refl

record Greatest (f : ℕ → ℤ) (n : ℕ) : Type 0 where
  at : ℕ
  within : at < suc n
  most : (i : ℕ) → i < suc n → f i ≤ℤ f at

greatest : (f : ℕ → ℤ) (n : ℕ) → Greatest f n
greatest f zero = record {
  at = 0;
  within = omega arith;
  most = λ i l. (let same : 0 ≡ i = omega (arith, l) in subst (λ (k : ℕ). f k ≤ℤ f 0) same (omega (arith, ints)));
}
greatest f (suc n) =
    let g = greatest f n in
    elim (le_cases (f (suc n)) (f g.at)) [
      | inl low ↦ record {
        at = g.at;
        within = (let w = g.within in omega (arith, w));
        most = λ i l. elim (cases_lt i (suc n)) [
          | inl below ↦ g.most i below
          | inr high ↦ (let same : suc n ≡ i = omega (arith, l, high) in subst (λ (k : ℕ). f k ≤ℤ f g.at) same low)
        ];
      }
      | inr up ↦ record {
        at = suc n;
        within = omega arith;
        most = λ i l. elim (cases_lt i (suc n)) [
          | inl below ↦ (let h = g.most i below in omega (arith, ints, h, up))
          | inr high ↦ (let same : suc n ≡ i = omega (arith, l, high) in subst (λ (k : ℕ). f k ≤ℤ f (suc n)) same (omega (arith, ints)))
        ];
      }
    ]

-- ---- each plan has a makespan

module _ (s : Shop) (is : IsShop s) (start : ℕ → ℕ → ℤ) where
  last_of : (j : ℕ) → Greatest (end s start j) (s.machines - 1)
  last_of j = greatest (end s start j) (s.machines - 1)

  last : Greatest (λ j. end s start j (last_of j).at) (length s.jobs - 1)
  last = greatest (λ j. end s start j (last_of j).at) (length s.jobs - 1)

  pub makespan_of : (m : ℤ) × IsMakespan s start m
  makespan_of =
      let some = is.some in
      let jobs = is.some_jobs in
      let j = last.at in
      let k = (last_of j).at in
      let in_job = (last_of j).within in
      let in_jobs = last.within in (
        end s start j k,
        record {
          latest = λ a i has.
              let low = has.0 in
              let place = has.1 in
              let first : end s start a i ≤ℤ end s start a (last_of a).at = (last_of a).most i (omega (arith, place, some)) in
              let second : end s start a (last_of a).at ≤ℤ end s start last.at (last_of last.at).at = last.most a (omega (arith, low, jobs)) in
              omega (arith, ints, first, second);
          attained = (j, (k, ((omega (arith, in_jobs, jobs), omega (arith, in_job, some)), refl)));
        },
      )

-- ---- schedules of Int names

pub record AreWhole (names : ℕ) (schedule : List NamedValue) : Type 0 where
  pub values : List ℤ
  pub are : schedule ≡ whole_numbers values
  pub many : length values ≡ names

pub all_whole : (xs : List (List ℕ)) (schedule : List NamedValue) → AreOfSorts (sorts_of (ints_of xs)) schedule → AreWhole (length xs) schedule
all_whole [] [] h = record { values = []; are = refl; many = refl }
all_whole [] (v ∷ rest) h = absurd h
all_whole (x ∷ xs) [] h = absurd h
all_whole (x ∷ xs) (named.Int n ∷ rest) h =
    let t = all_whole xs rest h.1 in
    record { values = n ∷ t.values; are = ap (λ (l : List NamedValue). named.Int n ∷ l) t.are; many = (let e = t.many in omega (arith, e)) }
all_whole (x ∷ xs) (named.Truth b ∷ rest) h = absurd h.0

pub of_sorts : (xs : List (List ℕ)) (vs : List ℤ) → length vs ≡ length xs → AreOfSorts (sorts_of (ints_of xs)) (whole_numbers vs)
of_sorts [] [] e = tt
of_sorts [] (v ∷ vs) e = absurd (omega (arith, e))
of_sorts (x ∷ xs) [] e = absurd (omega (arith, e))
of_sorts (x ∷ xs) (v ∷ vs) e = (tt, of_sorts xs vs (omega (arith, e)))

pub names_many : (s : Shop) → length (names_of s) ≡ length s.jobs * s.machines
names_many s = starts_many (length s.jobs) s.machines

abbrev pub number_in : Value → ℤ
number_in (whole n) = n
number_in _ = pos 0

-- ---- the best value

module _ (law : ScriptMeansPlans) (starts_law : SchedulesAreStarts) (s : Shop) (is : IsShop s) (c : Context) (h : IsContextOf s c) where
  pub objective : (m : ℤ) (vs : List ℤ) → length vs ≡ length s.jobs * s.machines → HasValue c (whole_numbers (m ∷ vs)) (Some bound) m
  objective m vs count =
      let env : environment c (whole_numbers (m ∷ vs)) ≡ names_on s m (start_in s vs) = environment_is (codes "m" ∷ names_of s) (terms_of s) c (m ∷ vs) h ∙ starts_law s m vs count in
      ap (λ (e : List Named). value e bound) env ∙ bound_value s is m (start_in s vs)

  of_plan : (m : ℤ) (vs : List ℤ) → length vs ≡ length s.jobs * s.machines → IsFeasible s (start_in s vs) → EndsBy s (start_in s vs) m → Satisfies c (whole_numbers (m ∷ vs))
  of_plan m vs count feasible by =
      let many = names_many s in
      let sorts : AreOfSorts (sorts_of (ints_of (codes "m" ∷ names_of s))) (whole_numbers (m ∷ vs)) = of_sorts (codes "m" ∷ names_of s) (m ∷ vs) (omega (arith, count, many)) in
      (subst (λ (ds : List Declaration). AreOfSorts (sorts_of ds) (whole_numbers (m ∷ vs))) (sym h.declared) sorts, (law s is c h m vs count).1 (feasible, by))

  module _ (m : ℤ) (best : IsBestFor c (Some bound) m) where
    no_less : (starts : List ℤ) (n : ℤ) → IsPlan s starts n → m ≤ℤ n
    no_less starts n plan =
        best.least (whole_numbers (n ∷ starts)) n (of_plan n starts plan.many plan.feasible plan.makespan.latest) (objective n starts plan.many)

    to_plan : (v : ℤ) (vs : List ℤ) → length vs ≡ length s.jobs * s.machines → Satisfies c (whole_numbers (v ∷ vs)) → v ≡ m → IsPlan s vs m
    to_plan v vs count sat e =
        let both = (law s is c h v vs count).0 sat.1 in
        let feasible = both.0 in
        let by = both.1 in
        let span = makespan_of s is (start_in s vs) in
        let at = span.1.attained in
        let reached : end s (start_in s vs) at.0 at.1.0 ≡ span.0 = at.1.1.1 in
        let ended : end s (start_in s vs) at.0 at.1.0 ≤ℤ v = by at.0 at.1.0 at.1.1.0 in
        let low : m ≤ℤ span.0 = best.least (whole_numbers (span.0 ∷ vs)) span.0 (of_plan span.0 vs count feasible span.1.latest) (objective span.0 vs count) in
        let same : span.0 ≡ m = omega (arith, ints, reached, ended, low, e) in
        record { many = count; feasible = feasible; makespan = subst (λ (n : ℤ). IsMakespan s (start_in s vs) n) same span.1 }

    of_values : (schedule : List NamedValue) (vs : List ℤ) → schedule ≡ whole_numbers vs → length vs ≡ length (codes "m" ∷ names_of s) → Satisfies c schedule → HasValue c schedule (Some bound) m
        → (starts : List ℤ) × (schedule ≡ whole_numbers (m ∷ starts)) × IsPlan s starts m
    of_values schedule [] are many sat is_m = absurd (omega (arith, many))
    of_values schedule (v ∷ vs) are many sat is_m =
        let names = names_many s in
        let count : length vs ≡ length s.jobs * s.machines = omega (arith, many, names) in
        let here : Satisfies c (whole_numbers (v ∷ vs)) = subst (Satisfies c) are sat in
        let valued : HasValue c (whole_numbers (v ∷ vs)) (Some bound) m = subst (λ (l : List NamedValue). HasValue c l (Some bound) m) are is_m in
        let e : v ≡ m = ap number_in (sym (objective v vs count) ∙ valued) in
        (vs, are ∙ ap (λ (n : ℤ). whole_numbers (n ∷ vs)) e, to_plan v vs count here e)

    pub to_starts : (schedule : List NamedValue) → Satisfies c schedule → HasValue c schedule (Some bound) m → (starts : List ℤ) × (schedule ≡ whole_numbers (m ∷ starts)) × IsLeastPlan s starts m
    to_starts schedule sat is_m =
        let sorts = subst (λ (ds : List Declaration). AreOfSorts (sorts_of ds) schedule) h.declared sat.0 in
        let t = all_whole (codes "m" ∷ names_of s) schedule sorts in
        let w = of_values schedule t.values t.are t.many sat is_m in
        (w.0, w.1, record { plan = w.2; least = no_less })

pub best_is_least_makespan : ScriptMeansPlans → SchedulesAreStarts → BestIsLeastMakespan
best_is_least_makespan law starts_law s is c h m best = to_starts law starts_law s is c h m best
