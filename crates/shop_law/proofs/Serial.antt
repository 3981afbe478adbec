-- The plan that does one operation after the other, job after job, is feasible.
use Rattle.std.proofs.Common.{◌≡◌, ◌≢◌, ◌∙◌, refl, sym, ap, subst, arith, ℕ, zero, suc, ◌+◌, ◌*◌, ◌<◌, ◌≤◌, List, [], ◌∷◌, ◌++◌, length, length-append, Some, inl, inr, ℤ, pos, ◌≤ℤ◌}
use Rattle.std.specs.Prelude.{codes, ◌⊎◌}
use Rattle.std.specs.List.{AllByRecursion}
use Rattle.std.proofs.lemmas.Int.{ints}
use Rattle.std.proofs.lemmas.Bool.{cases_lt}
use Rattle.smt_sexpr.specs.Tree.{Sexpr}
use Rattle.stn_core.specs.declared.named.NamedValue.{NamedValue}
use Rattle.idl_node.specs.Sorts.{AreOfSorts}
use Rattle.idl_scope.specs.Scopes.{Declaration, sorts_of}
use Rattle.idl_term.specs.Contexts.{Context, environment, IsTrueOn}
use Rattle.idl_term.specs.Values.{whole, Named}
use Rattle.job_shop.specs.Shops.{Shop, IsShop, Has, machine_of, duration}
use Rattle.job_shop.specs.Feasible.{IsFeasible, Precedes, end}
use Rattle.job_shop.specs.Scripts.{each, bound, one_name, names_in, names_of, terms_of}
use Rattle.job_shop.specs.Plans.{start_in}
use Rattle.shop_law.specs.Laws.{starts_at, starts_in, names_on, IsContextOf, IsTrueIn, SchedulesArePlans, SchedulesAreStarts, ScriptMeansPlans, ScriptIsSatisfiable, ObjectiveIsBounded}
use Rattle.dtp_entry.specs.Bests.{Satisfies, HasValue}
use Rattle.script_law.specs.Ints.{ints_on, ints_of, whole_numbers}
use Rattle.shop_law.proofs.Machines.{once}
use Rattle.shop_law.proofs.Meaning.{environment_is}
use Rattle.shop_law.proofs.Least.{makespan_of, all_whole, of_sorts, names_many, number_in, objective}

-- how long the first so many operations of a job take, and the first so many jobs
abbrev pub done : Shop → ℕ → ℕ → ℕ
done s j zero = 0
done s j (suc k) = done s j k + duration s j k

abbrev pub jobs_done : Shop → ℕ → ℕ
jobs_done s zero = 0
jobs_done s (suc j) = jobs_done s j + done s j s.machines

abbrev pub serial : Shop → ℕ → ℕ → ℤ
serial s j k = pos (jobs_done s j + done s j k)

module _ (s : Shop) where
  done_upto : (j k m : ℕ) → k ≤ m → done s j k ≤ done s j m
  done_upto j k zero l = let none : 0 ≡ k = omega (arith, l) in subst (λ (n : ℕ). done s j n ≤ done s j 0) none (omega arith)
  done_upto j k (suc m) l = elim (cases_lt k (suc m)) [
    | inl below ↦ (let h = done_upto j k m (omega (arith, below)) in omega (arith, h))
    | inr high ↦ (let same : suc m ≡ k = omega (arith, l, high) in subst (λ (n : ℕ). done s j n ≤ done s j (suc m)) same (omega arith))
  ]

  jobs_upto : (a b : ℕ) → a < b → jobs_done s a + done s a s.machines ≤ jobs_done s b
  jobs_upto a zero l = absurd (omega arith)
  jobs_upto a (suc b) l = elim (cases_lt a b) [
    | inl below ↦ (let h = jobs_upto a b below in omega (arith, h))
    | inr high ↦ (let same : b ≡ a = omega (arith, l, high) in subst (λ (n : ℕ). jobs_done s n + done s n s.machines ≤ jobs_done s (suc b)) same (omega arith))
  ]

  within_job : (j i k : ℕ) → i < k → Precedes s (serial s) j i j k
  within_job j i k l = let h = done_upto j (suc i) k (omega (arith, l)) in omega (arith, ints, h)

  between_jobs : (a i b j : ℕ) → i < s.machines → a < b → Precedes s (serial s) a i b j
  between_jobs a i b j low l =
      let h = done_upto a (suc i) s.machines (omega (arith, low)) in
      let g = jobs_upto a b l in
      omega (arith, ints, h, g)

  module _ (is : IsShop s) where
    own_job : (a i b j : ℕ) → Has s a i → Has s b j → a ≡ b → ((a ≢ b) ⊎ (i ≢ j)) → machine_of s a i ≡ machine_of s b j → ⊥
    own_job a i b j ha hb same o e = elim o [
      | inl other ↦ other same
      | inr other ↦ once s is a i j ha (subst (λ (n : ℕ). Has s n j) (sym same) hb) other (subst (λ (n : ℕ). machine_of s a i ≡ machine_of s n j) (sym same) e)
    ]

    serial_apart : (a i b j : ℕ) → Has s a i → Has s b j → ((a ≢ b) ⊎ (i ≢ j)) → machine_of s a i ≡ machine_of s b j → Precedes s (serial s) a i b j ⊎ Precedes s (serial s) b j a i
    serial_apart a i b j ha hb o e = elim (cases_lt a b) [
      | inl below ↦ inl (between_jobs a i b j ha.1 below)
      | inr high ↦ elim (cases_lt b a) [
        | inl below ↦ inr (between_jobs b j a i hb.1 below)
        | inr low ↦ (let same : a ≡ b = omega arith in absurd (own_job a i b j ha hb same o e))
      ]
    ]

    pub serial_feasible : IsFeasible s (serial s)
    serial_feasible = record {
      begins = λ j k has. omega (arith, ints);
      order = λ j k has. within_job j k (k + 1) (omega arith);
      apart = serial_apart;
    }

-- ---- as a schedule

abbrev starts_list : Shop → (ℕ → ℕ → ℤ) → ℕ → List ℤ
starts_list s start j = each s.machines (λ k. start j k ∷ [])

ints_append : (xs ys : List (List ℕ)) (us vs : List ℤ) → length xs ≡ length us → ints_on (xs ++ ys) (us ++ vs) ≡ ints_on xs us ++ ints_on ys vs
ints_append [] ys [] vs e = refl
ints_append [] ys (u ∷ us) vs e = absurd (omega (arith, e))
ints_append (x ∷ xs) ys [] vs e = absurd (omega (arith, e))
ints_append (x ∷ xs) ys (u ∷ us) vs e = ap (λ (ns : List Named). record { name = x; value = whole u } ∷ ns) (ints_append xs ys us vs (omega (arith, e)))

same_length : (n : ℕ) (xs : ℕ → List (List ℕ)) (vs : ℕ → List ℤ) → ((i : ℕ) → length (xs i) ≡ length (vs i)) → length (each n xs) ≡ length (each n vs)
same_length zero xs vs h = refl
same_length (suc n) xs vs h =
    let before = same_length n xs vs h in
    let more = h n in
    omega (arith, length-append (each n xs) (xs n), length-append (each n vs) (vs n), before, more)

ints_each : (n : ℕ) (xs : ℕ → List (List ℕ)) (vs : ℕ → List ℤ) (named_ints : ℕ → List Named) → ((i : ℕ) → length (xs i) ≡ length (vs i)) → ((i : ℕ) → ints_on (xs i) (vs i) ≡ named_ints i)
    → ints_on (each n xs) (each n vs) ≡ each n named_ints
ints_each zero xs vs named_ints h k = refl
ints_each (suc n) xs vs named_ints h k =
    ints_append (each n xs) (xs n) (each n vs) (vs n) (same_length n xs vs h)
    ∙ ap (λ (l : List Named). l ++ ints_on (xs n) (vs n)) (ints_each n xs vs named_ints h k) ∙ ap (λ (l : List Named). each n named_ints ++ l) (k n)

module _ (s : Shop) (start : ℕ → ℕ → ℤ) where
  abbrev all_starts : List ℤ
  all_starts = each (length s.jobs) (starts_list s start)

  starts_are : ints_on (names_of s) all_starts ≡ each (length s.jobs) (starts_in s start)
  starts_are =
      ints_each (length s.jobs) (names_in s) (starts_list s start) (starts_in s start) (λ j. same_length s.machines (one_name j) (λ k. start j k ∷ []) (λ k. refl))
      (λ j. ints_each s.machines (one_name j) (λ k. start j k ∷ []) (starts_at start j) (λ k. refl) (λ k. refl))

  starts_many : length (names_of s) ≡ length all_starts
  starts_many = same_length (length s.jobs) (names_in s) (starts_list s start) (λ j. same_length s.machines (one_name j) (λ k. start j k ∷ []) (λ k. refl))

pub script_is_satisfiable : SchedulesArePlans → ScriptIsSatisfiable
script_is_satisfiable law s is c h =
    let span = makespan_of s is (serial s) in
    let vs = all_starts s (serial s) in
    let env : environment c (whole_numbers (span.0 ∷ all_starts s (serial s))) ≡ names_on s span.0 (serial s) =
    environment_is (codes "m" ∷ names_of s) (terms_of s) c (span.0 ∷ vs) h ∙ ap (λ (ns : List Named). record { name = codes "m"; value = whole span.0 } ∷ ns) (starts_are s (serial s)) in
    let true_there = (law s is span.0 (serial s)).1 (serial_feasible s is, span.1.latest) in
    let P : List Named → Type 0 = λ e. AllByRecursion (IsTrueIn e) (terms_of s) in
    let Q : List Sexpr → Type 0 = λ ts. AllByRecursion (IsTrueOn c (whole_numbers (span.0 ∷ vs))) ts in
    let many = starts_many s (serial s) in
    let sorts : AreOfSorts (sorts_of (ints_of (codes "m" ∷ names_of s))) (whole_numbers (span.0 ∷ vs)) = of_sorts (codes "m" ∷ names_of s) (span.0 ∷ vs) (omega (arith, many)) in
    (whole_numbers (span.0 ∷ vs), (subst (λ (ds : List Declaration). AreOfSorts (sorts_of ds) (whole_numbers (span.0 ∷ vs))) (sym h.declared) sorts, subst Q (sym h.assertions) (subst P (sym env) true_there)))

-- ---- no value below 0

module _ (law : ScriptMeansPlans) (starts_law : SchedulesAreStarts) (s : Shop) (is : IsShop s) (c : Context) (h : IsContextOf s c) where
  bounded_by : (schedule : List NamedValue) (m : ℤ) (vs : List ℤ) → schedule ≡ whole_numbers vs → length vs ≡ length (codes "m" ∷ names_of s) → Satisfies c schedule → HasValue c schedule (Some bound) m → pos 0 ≤ℤ m
  bounded_by schedule m [] are many sat is_m = absurd (omega (arith, many))
  bounded_by schedule m (v ∷ vs) are many sat is_m =
      let names = names_many s in
      let count : length vs ≡ length s.jobs * s.machines = omega (arith, many, names) in
      let here : Satisfies c (whole_numbers (v ∷ vs)) = subst (Satisfies c) are sat in
      let valued : HasValue c (whole_numbers (v ∷ vs)) (Some bound) m = subst (λ (l : List NamedValue). HasValue c l (Some bound) m) are is_m in
      let e : v ≡ m = ap number_in (sym (objective law starts_law s is c h v vs count) ∙ valued) in
      let both = (law s is c h v vs count).0 here.1 in
      let jobs = is.some_jobs in
      let some = is.some in
      let first : Has s 0 0 = (omega (arith, jobs), omega (arith, some)) in
      let low : pos 0 ≤ℤ start_in s vs 0 0 = both.0.begins 0 0 first in
      let ended : end s (start_in s vs) 0 0 ≤ℤ v = both.1 0 0 first in
      omega (arith, ints, low, ended, e)

pub objective_is_bounded : ScriptMeansPlans → SchedulesAreStarts → ObjectiveIsBounded
objective_is_bounded law starts_law s is c h schedule m sat is_m =
    let sorts = subst (λ (ds : List Declaration). AreOfSorts (sorts_of ds) schedule) h.declared sat.0 in
    let t = all_whole (codes "m" ∷ names_of s) schedule sorts in
    bounded_by law starts_law s is c h schedule m t.values t.are t.many sat is_m
