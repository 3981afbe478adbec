-- The names and terms of a job shop's script are accepted.
use Rattle.std.proofs.Common.{◌≡◌, refl, arith, ℕ, ◌+◌, ◌-◌, ◌<◌, ◌≤◌, false, true, Option, Some, None, List, [], ◌∷◌, length, length-append}
use Rattle.std.specs.Prelude.{codes}
use Rattle.std.specs.List.{list_any, AllByRecursion}
use Rattle.std.specs.Str.{bytes_eq}
use Rattle.idl_apply.specs.Operators.{theory_symbols, reserved_words}
use Rattle.smt_script.specs.Commands.{command_of, naming_command, changing_command, asking_command}
use Rattle.smt_script.specs.States.{start_state, after}
use Rattle.job_shop.specs.Shops.{Shop, IsShop, Has, duration}
use Rattle.job_shop.specs.Scripts.{each, less, name, point, bound, before, goes_on, ends, apart, goes_on_one, bounds_of, operation_on, apart_by, apart_on, apart_from_later, orders_of, terms_of, names_of, commands_before}
use Rattle.shop_law.specs.Laws.{IsContextOf, StateOfScript}
use Rattle.script_law.proofs.Lists.{all_append, all_each, long_each}
use Rattle.script_law.proofs.Going.{Goes}
use Rattle.script_law.proofs.Lowering.{before_formula}
use Rattle.script_law.proofs.Orders.{HasPoint, has_point, less_is, more_few, begins_accepted, later_accepted, apart_accepted}
use Rattle.script_law.proofs.Starts.{name_usual, starts_new, starts_few, start_among}
use Rattle.script_law.proofs.Leading.{tells_of}
use Rattle.script_law.proofs.States.{IsUsual, IsReady, AreNew, IsAccepted, scope_with, script_goes}
use Rattle.shop_law.proofs.Machines.{on_is}

-- ---- names

m_usual : IsUsual (codes "m")
unfolding theory_symbols reserved_words
m_usual = record { not_true = refl; not_false = refl; free = refl }

not_m : (j k : ℕ) → bytes_eq (name j k) (codes "m") ≡ false
unfolding name
not_m j k = refl

module _ (s : Shop) (is : IsShop s) where
  abbrev pub all_names : List (List ℕ)
  all_names = codes "m" ∷ names_of s

  names_new : AreNew [] all_names
  names_new = ((m_usual, tt), starts_new (length s.jobs) s.machines is.few_jobs is.few (codes "m" ∷ []) (λ j k. (not_m j k, tt)))

  pub few_names : length all_names ≤ 1601
  few_names = omega (arith, starts_few (length s.jobs) s.machines is.few_jobs is.few)

  point_of : (j k : ℕ) → Has s j k → HasPoint all_names (name j k)
  point_of j k has =
      let among : list_any (bytes_eq (name j k)) all_names ≡ true = rw (not_m j k) (start_among (length s.jobs) s.machines is.few_jobs is.few j k has.0 has.1) in
      has_point all_names (name j k) (name_usual j k) among

  pub m_point : HasPoint all_names (codes "m")
  m_point = has_point all_names (codes "m") m_usual refl

  -- ---- terms

  short_duration : (j k : ℕ) → Has s j k → duration s j k ≤ 1000000
  short_duration j k has =
      let job = is.job j has.0 in
      let many = job.many in
      let place = has.1 in
      job.row.short k (omega (arith, many, place))

  goes_on_accepted : (j k : ℕ) → Has s j k → Has s j (k + 1) → IsAccepted all_names (goes_on s j k)
  unfolding goes_on
  goes_on_accepted j k has next = later_accepted all_names j (k + 1) j k (duration s j k) (point_of j (k + 1) next) (point_of j k has) (short_duration j k has)

  ends_accepted : (j : ℕ) → Has s j (s.machines - 1) → IsAccepted all_names (ends s j)
  unfolding ends point bound after command_of naming_command changing_command asking_command
  ends_accepted j has = record {
    plain = λ t. refl;
    made = λ nodes room. (let x = point_of j (s.machines - 1) has in let y = m_point in
        let n = less_is all_names nodes (duration s j (s.machines - 1)) (short_duration j (s.machines - 1) has) in
        more_few all_names nodes (ends s j)
        (before_formula (scope_with all_names) nodes (name j (s.machines - 1)) (codes "m") (less (duration s j (s.machines - 1))) x.at y.at n.c (omega (arith, room)) x.is y.is n.near n.makes));
  }

  apart_is_accepted : (a i b j : ℕ) → Has s a i → Has s b j → IsAccepted all_names (apart s a i b j)
  unfolding apart before
  apart_is_accepted a i b j ha hb =
      apart_accepted all_names a i b j (duration s a i) (duration s b j) (point_of a i ha) (point_of b j hb) (short_duration a i ha) (short_duration b j hb)

  apart_by_accepted : (machine a b : ℕ) (o p : Option ℕ) → a < length s.jobs → b < length s.jobs → operation_on s.machines s machine a ≡ o → operation_on s.machines s machine b ≡ p
      → AllByRecursion (IsAccepted all_names) (apart_by s a b o p)
  apart_by_accepted machine a b (Some i) (Some j) la lb eo ep = (apart_is_accepted a i b j (la, (on_is s machine a s.machines i eo).0) (lb, (on_is s machine b s.machines j ep).0), tt)
  apart_by_accepted machine a b None p la lb eo ep = tt
  apart_by_accepted machine a b (Some i) None la lb eo ep = tt

  pair_accepted : (machine a later : ℕ) → a < length s.jobs → later < length s.jobs - 1 - a → AllByRecursion (IsAccepted all_names) (apart_on s machine a later)
  unfolding apart_on
  pair_accepted machine a later ha hl =
      apart_by_accepted machine a (a + 1 + later) (operation_on s.machines s machine a) (operation_on s.machines s machine (a + 1 + later)) ha (omega arith) refl refl

  job_accepted : (j : ℕ) → j < length s.jobs → AllByRecursion (IsAccepted all_names) (bounds_of s j)
  job_accepted j l =
      let some = is.some in
      let final : Has s j (s.machines - 1) = (l, omega (arith, some)) in (
        begins_accepted all_names j (point_of j 0 (l, omega (arith, some))),
        all_append (IsAccepted all_names) (each (s.machines - 1) (goes_on_one s j)) (ends s j ∷ [])
            (all_each (IsAccepted all_names) (s.machines - 1) (goes_on_one s j) (λ k h. (goes_on_accepted j k (l, omega arith) (l, omega arith), tt)))
            (ends_accepted j final, tt),
      )

  terms_accepted : AllByRecursion (IsAccepted all_names) (terms_of s)
  terms_accepted =
      all_append (IsAccepted all_names) (each (length s.jobs) (bounds_of s)) (each s.machines (orders_of s)) (all_each (IsAccepted all_names) (length s.jobs) (bounds_of s) job_accepted)
      (all_each (IsAccepted all_names) s.machines (orders_of s)
      (λ machine hm. all_each (IsAccepted all_names) (length s.jobs) (apart_from_later s machine)
      (λ a ha. all_each (IsAccepted all_names) (length s.jobs - 1 - a) (apart_on s machine a) (λ later hl. pair_accepted machine a later ha hl))))

  -- ---- how many

  one_pair : (a b : ℕ) (o p : Option ℕ) → length (apart_by s a b o p) ≤ 1
  one_pair a b (Some i) (Some j) = omega arith
  one_pair a b (Some i) None = omega arith
  one_pair a b None p = omega arith

  one_on : (machine a later : ℕ) → length (apart_on s machine a later) ≤ 1
  unfolding apart_on
  one_on machine a later = one_pair a (a + 1 + later) (operation_on s.machines s machine a) (operation_on s.machines s machine (a + 1 + later))

  few_bounds : (j : ℕ) → length (bounds_of s j) ≤ 42
  few_bounds j =
      let short = is.few in
      omega (arith, length-append (each (s.machines - 1) (goes_on_one s j)) (ends s j ∷ []), long_each (s.machines - 1) 1 (goes_on_one s j) (λ k m. omega arith), short)

  few_later : (machine a : ℕ) → length (apart_from_later s machine a) ≤ 40
  few_later machine a =
      let few = is.few_jobs in
      omega (arith, long_each (length s.jobs - 1 - a) 1 (apart_on s machine a) (λ later l. one_on machine a later), few)

  few_orders : (machine : ℕ) → length (orders_of s machine) ≤ 1600
  few_orders machine =
      let few = is.few_jobs in
      omega (arith, long_each (length s.jobs) 40 (apart_from_later s machine) (λ a l. few_later machine a), few)

  few_terms : length (terms_of s) ≤ 66000
  few_terms =
      let few = is.few_jobs in
      let short = is.few in
      omega (arith, length-append (each (length s.jobs) (bounds_of s)) (each s.machines (orders_of s)), long_each (length s.jobs) 42 (bounds_of s) (λ j l. few_bounds j), long_each s.machines 1600 (orders_of s) (λ machine l. few_orders machine), few, short)

  -- ---- the whole

  -- where the commands before the objective lead
  pub ready : Goes start_state (commands_before s) (IsReady all_names (terms_of s) 1000000)
  ready = script_goes all_names (terms_of s) names_new (omega (arith, few_names)) terms_accepted (omega (arith, few_terms))

  pub stands : IsContextOf s ready.t.context
  stands = record { declared = ready.holds.declared; defined = ready.holds.defined; assertions = ready.holds.assertions }

pub state_of_script : StateOfScript
state_of_script s is = ((ready s is).t, tells_of (commands_before s) start_state (ready s is).t (ready s is).tells, stands s is)
