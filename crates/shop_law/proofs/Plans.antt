-- All assertions are true exactly where the starts are a feasible plan that has ended at m.
use Rattle.std.proofs.Common.{◌≡◌, ◌≢◌, ◌∙◌, refl, sym, subst, arith, ℕ, zero, suc, ◌+◌, ◌-◌, ◌<◌, Option, Some, None, List, [], ◌∷◌, length, inl, inr, ℤ, pos, ◌≤ℤ◌}
use Rattle.std.specs.Prelude.{◌⊎◌}
use Rattle.std.specs.List.{AllByRecursion}
use Rattle.std.proofs.lemmas.Int.{ints}
use Rattle.std.proofs.lemmas.Bool.{cases_lt}
use Rattle.smt_sexpr.specs.Tree.{Sexpr}
use Rattle.job_shop.specs.Shops.{Shop, IsShop, Has, machine_of}
use Rattle.job_shop.specs.Feasible.{IsFeasible, EndsBy, Precedes, end}
use Rattle.job_shop.specs.Scripts.{each, goes_on, ends, apart, goes_on_one, bounds_of, operation_on, apart_by, apart_on, apart_from_later, orders_of}
use Rattle.shop_law.specs.Laws.{names_on, IsTrueIn, AllAreTrue, SchedulesArePlans, NoLessThanMakespan}
use Rattle.script_law.proofs.Lists.{all_append, all_front, all_back, all_each, one_of}
use Rattle.shop_law.proofs.Lines.{begins_says, goes_on_says, ends_says, apart_says}
use Rattle.shop_law.proofs.Machines.{on_is, machine_within, found_on, once}

module _ (s : Shop) (is : IsShop s) (m : ℤ) (start : ℕ → ℕ → ℤ) where
  abbrev Holds : Sexpr → Type 0
  Holds t = IsTrueIn (names_on s m start) t

  abbrev All : List Sexpr → Type 0
  All ts = AllByRecursion Holds ts

  last : (j : ℕ) → j < length s.jobs → Has s j (s.machines - 1)
  last j l = let some = is.some in (l, omega (arith, some))

  first : (j : ℕ) → j < length s.jobs → Has s j 0
  first j l = let some = is.some in (l, omega (arith, some))

  before : (j k : ℕ) → Has s j (k + 1) → Has s j k
  before j k has = let place = has.1 in (has.0, omega (arith, place))

  -- ---- from the script to the plan

  module _ (h : AllAreTrue s m start) where
    of_job : (j : ℕ) → j < length s.jobs → All (bounds_of s j)
    of_job j l = one_of Holds (length s.jobs) j (bounds_of s) l (all_front Holds (each (length s.jobs) (bounds_of s)) (each s.machines (orders_of s)) h)

    of_step : (j k : ℕ) → j < length s.jobs → k < s.machines - 1 → Holds (goes_on s j k)
    of_step j k l below =
        (one_of Holds (s.machines - 1) k (goes_on_one s j) below (all_front Holds (each (s.machines - 1) (goes_on_one s j)) (ends s j ∷ []) (of_job j l).1)).0

    of_end : (j : ℕ) → j < length s.jobs → Holds (ends s j)
    of_end j l = (all_back Holds (each (s.machines - 1) (goes_on_one s j)) (ends s j ∷ []) (of_job j l).1).0

    order : (j k : ℕ) → Has s j (k + 1) → Precedes s start j k j (k + 1)
    order j k has =
        let place = has.1 in
        (goes_on_says s is m start j k (before j k has) has).0 (of_step j k has.0 (omega (arith, place)))

    starts_late : (j k : ℕ) → Has s j k → pos 0 ≤ℤ start j k
    starts_late j zero has = (begins_says s is m start j has).0 (of_job j has.0).0
    starts_late j (suc k) has =
        let place = has.1 in
        let there : Has s j (k + 1) = (has.0, omega (arith, place)) in
        let low = starts_late j k (before j k there) in
        let step = order j k there in
        let same : k + 1 ≡ suc k = omega arith in
        let here : pos 0 ≤ℤ start j (k + 1) = omega (arith, ints, low, step) in
        subst (λ (n : ℕ). pos 0 ≤ℤ start j n) same here

    ends_from : (r j k : ℕ) → Has s j k → k + r + 1 ≡ s.machines → end s start j k ≤ℤ m
    ends_from zero j k has e =
        let same : s.machines - 1 ≡ k = omega (arith, e) in
        subst (λ (n : ℕ). end s start j n ≤ℤ m) same ((ends_says s is m start j (last j has.0)).0 (of_end j has.0))
    ends_from (suc r) j k has e =
        let there : Has s j (k + 1) = (has.0, omega (arith, e)) in
        let later = ends_from r j (k + 1) there (omega (arith, e)) in
        let step = order j k there in
        omega (arith, ints, later, step)

    ends_by : EndsBy s start m
    ends_by j k has =
        let place = has.1 in
        ends_from (s.machines - 1 - k) j k has (omega (arith, place))

    of_pair : (machine a later : ℕ) → machine < s.machines → a < length s.jobs → later < length s.jobs - 1 - a → All (apart_on s machine a later)
    of_pair machine a later hm ha hl =
        one_of Holds (length s.jobs - 1 - a) later (apart_on s machine a) hl
        (one_of Holds (length s.jobs) a (apart_from_later s machine) ha
        (one_of Holds s.machines machine (orders_of s) hm (all_back Holds (each (length s.jobs) (bounds_of s)) (each s.machines (orders_of s)) h)))

    of_found : (a b i j : ℕ) (o p : Option ℕ) → o ≡ Some i → p ≡ Some j → All (apart_by s a b o p) → Holds (apart s a i b j)
    of_found a b i j o p eo ep t =
        (subst (λ (q : Option ℕ). All (apart_by s a b (Some i) q)) ep (subst (λ (q : Option ℕ). All (apart_by s a b q p)) eo t)).0

    apart_later : (a i later j : ℕ) → Has s a i → Has s (a + 1 + later) j → machine_of s a i ≡ machine_of s (a + 1 + later) j
        → Precedes s start a i (a + 1 + later) j ⊎ Precedes s start (a + 1 + later) j a i
    unfolding apart_on
    apart_later a i later j ha hb e =
        let low = hb.0 in
        let pair = of_pair (machine_of s a i) a later (machine_within s is a i ha) ha.0 (omega (arith, low)) in
        let other : operation_on s.machines s (machine_of s a i) (a + 1 + later) ≡ Some j =
        subst (λ (n : ℕ). operation_on s.machines s n (a + 1 + later) ≡ Some j) (sym e) (found_on s is (a + 1 + later) j hb s.machines hb.1) in
        (apart_says s is m start a i (a + 1 + later) j ha hb).0
        (of_found a (a + 1 + later) i j (operation_on s.machines s (machine_of s a i) a) (operation_on s.machines s (machine_of s a i) (a + 1 + later)) (found_on s is a i ha s.machines ha.1) other pair)

    apart_below : (a i b j : ℕ) → Has s a i → Has s b j → a < b → machine_of s a i ≡ machine_of s b j → Precedes s start a i b j ⊎ Precedes s start b j a i
    apart_below a i b j ha hb below e =
        let same : a + 1 + (b - 1 - a) ≡ b = omega (arith, below) in
        let P : ℕ → Type 0 = λ n. Has s n j → machine_of s a i ≡ machine_of s n j → Precedes s start a i n j ⊎ Precedes s start n j a i in
        subst P same (λ hn en. apart_later a i (b - 1 - a) j ha hn en) hb e

    swap : (a i b j : ℕ) → Precedes s start a i b j ⊎ Precedes s start b j a i → Precedes s start b j a i ⊎ Precedes s start a i b j
    swap a i b j o = elim o [
      | inl p ↦ inr p
      | inr p ↦ inl p
    ]

    own_job : (a i b j : ℕ) → Has s a i → Has s b j → a ≡ b → ((a ≢ b) ⊎ (i ≢ j)) → machine_of s a i ≡ machine_of s b j → ⊥
    own_job a i b j ha hb same o e = elim o [
      | inl other ↦ other same
      | inr other ↦ once s is a i j ha (subst (λ (n : ℕ). Has s n j) (sym same) hb) other (subst (λ (n : ℕ). machine_of s a i ≡ machine_of s n j) (sym same) e)
    ]

    keeps_apart : (a i b j : ℕ) → Has s a i → Has s b j → ((a ≢ b) ⊎ (i ≢ j)) → machine_of s a i ≡ machine_of s b j → Precedes s start a i b j ⊎ Precedes s start b j a i
    keeps_apart a i b j ha hb o e = elim (cases_lt a b) [
      | inl below ↦ apart_below a i b j ha hb below e
      | inr high ↦ elim (cases_lt b a) [
        | inl below ↦ swap b j a i (apart_below b j a i hb ha below (sym e))
        | inr low ↦ (let same : a ≡ b = omega arith in absurd (own_job a i b j ha hb same o e))
      ]
    ]

    pub plan_of : IsFeasible s start × EndsBy s start m
    plan_of = (record { begins = starts_late; order = order; apart = keeps_apart }, ends_by)

  -- ---- from the plan to the script

  module _ (f : IsFeasible s start) (by : EndsBy s start m) where
    to_step : (j k : ℕ) → j < length s.jobs → k < s.machines - 1 → Holds (goes_on s j k)
    to_step j k l below =
        let there : Has s j (k + 1) = (l, omega arith) in
        (goes_on_says s is m start j k (before j k there) there).1 (f.order j k there)

    to_job : (j : ℕ) → j < length s.jobs → All (bounds_of s j)
    to_job j l = (
      (begins_says s is m start j (first j l)).1 (f.begins j 0 (first j l)),
      all_append Holds (each (s.machines - 1) (goes_on_one s j)) (ends s j ∷ [])
          (all_each Holds (s.machines - 1) (goes_on_one s j) (λ k h. (to_step j k l h, tt)))
          ((ends_says s is m start j (last j l)).1 (by j (s.machines - 1) (last j l)), tt),
    )

    to_found : (machine a b : ℕ) (o p : Option ℕ) → a < length s.jobs → b < length s.jobs → a ≢ b → operation_on s.machines s machine a ≡ o → operation_on s.machines s machine b ≡ p → All (apart_by s a b o p)
    to_found machine a b (Some i) (Some j) la lb other eo ep =
        let first_on = on_is s machine a s.machines i eo in
        let second_on = on_is s machine b s.machines j ep in
        ((apart_says s is m start a i b j (la, first_on.0) (lb, second_on.0)).1 (f.apart a i b j (la, first_on.0) (lb, second_on.0) (inl other) (first_on.1 ∙ sym second_on.1)), tt)
    to_found machine a b None p la lb other eo ep = tt
    to_found machine a b (Some i) None la lb other eo ep = tt

    to_pair : (machine a later : ℕ) → a < length s.jobs → later < length s.jobs - 1 - a → All (apart_on s machine a later)
    unfolding apart_on
    to_pair machine a later ha hl =
        to_found machine a (a + 1 + later) (operation_on s.machines s machine a) (operation_on s.machines s machine (a + 1 + later)) ha (omega arith) (λ e. absurd (omega (arith, e))) refl refl

    pub script_of : AllAreTrue s m start
    script_of =
        all_append Holds (each (length s.jobs) (bounds_of s)) (each s.machines (orders_of s)) (all_each Holds (length s.jobs) (bounds_of s) to_job)
        (all_each Holds s.machines (orders_of s)
        (λ machine hm. all_each Holds (length s.jobs) (apart_from_later s machine)
        (λ a ha. all_each Holds (length s.jobs - 1 - a) (apart_on s machine a) (λ later hl. to_pair machine a later ha hl))))

pub schedules_are_plans : SchedulesArePlans
schedules_are_plans s is m start = (λ h. plan_of s is m start h, λ p. script_of s is m start p.0 p.1)

pub no_less_than_makespan : NoLessThanMakespan
no_less_than_makespan s start c m is = (
  λ by. (let at = is.attained in let ends_there = by at.0 at.1.0 at.1.1.0 in let same = at.1.1.1 in omega (arith, ints, ends_there, same)),
  λ le j k has. (let low = is.latest j k has in omega (arith, ints, low, le)),
)
