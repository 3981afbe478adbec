-- The script of a plan asks once.
use Rattle.std.proofs.Common.{◌≡◌, refl, ap, arith, ℕ, ◌+◌, ◌-◌, ◌^◌, ◌<◌, ◌≤◌, [], ◌∷◌, length, length-append, decimal, Option, None, Ok}
use Rattle.std.specs.List.{AllByRecursion}
use Rattle.smt_lex.specs.Numbers.{value_of}
use Rattle.smt_script.specs.Commands.{command_of, naming_command, changing_command, asking_command}
use Rattle.smt_script.specs.declared.state.Effect.TheVariants.{Ask}
use Rattle.smt_script.specs.declared.state.Question.TheVariants.{CheckSat}
use Rattle.smt_script.specs.States.{State, Assumed, start_state, without_assumptions, after}
use Rattle.dtp_gen.specs.Plans.{Plan, duration, operation_on}
use Rattle.dtp_gen.specs.Scripts.{script}
use Rattle.job_shop.specs.Scripts.{each, name, point}
use Rattle.job_shop.proofs.Numerals.{decimal_value}
use Rattle.script_law.specs.Told.{step_of, AsksOnce}
use Rattle.script_law.proofs.Lists.{all_append, all_each, long_each}
use Rattle.script_law.proofs.Going.{Goes}
use Rattle.script_law.proofs.Orders.{HasPoint, has_point, decimal_is, more_few, begins_accepted, later_accepted, apart_accepted}
use Rattle.script_law.proofs.Starts.{name_usual, starts_new, starts_few, start_among}
use Rattle.script_law.proofs.Leading.{tells_of}
use Rattle.script_law.proofs.States.{IsReady, AreNew, IsAccepted, scope_with, script_goes}
use Rattle.bench_law.proofs.Commands.{names, goes_on, finishes, bounds_job, pair_on, pairs_of, pairs_on, terms, check, told, short_duration, on_machine, script_text}
use Rattle.bench_law.proofs.Sums.{ends_formula}
use Rattle.bench_law.proofs.Writable.{script_lines}

after_check : (s : State) → s.assumed ≡ None → after s check ≡ Ok (step_of s (Ask CheckSat))
unfolding after command_of naming_command changing_command asking_command
after_check s alone = ap (λ (a : Option Assumed). Ok (step_of (without_assumptions s a) (Ask CheckSat))) alone

module _ (p : Plan) (jobs : p.jobs ≤ 40) (some : 1 ≤ p.machines) (machines : p.machines ≤ 40) (deadline : p.deadline < 2 ^ 32) where
  names_new : AreNew [] (names p)
  names_new = starts_new p.jobs p.machines jobs machines [] (λ job k. tt)

  point_of : (job k : ℕ) → job < p.jobs → k < p.machines → HasPoint (names p) (name job k)
  point_of job k h l = has_point (names p) (name job k) (name_usual job k) (start_among p.jobs p.machines jobs machines job k h l)

  -- ---- terms

  small : (job k : ℕ) → duration p job k ≤ 1000000
  small job k = omega (arith, short_duration p job k)

  deadline_is : value_of (decimal p.deadline) ≡ p.deadline
  deadline_is = decimal_value p.deadline (omega arith)

  finishes_accepted : (job : ℕ) → job < p.jobs → IsAccepted (names p) (finishes p job)
  unfolding point after command_of naming_command changing_command asking_command
  finishes_accepted job h = record {
    plain = λ t. refl;
    made = λ nodes room. (let x = point_of job (p.machines - 1) h (omega arith) in
        more_few (names p) nodes (finishes p job)
        (ends_formula (scope_with (names p)) nodes (name job (p.machines - 1)) (decimal (duration p job (p.machines - 1))) (decimal p.deadline) x.at (duration p job (p.machines - 1)) p.deadline (omega (arith, room)) x.is
        (decimal_is (duration p job (p.machines - 1)) (small job (p.machines - 1))) (short_duration p job (p.machines - 1)) deadline_is (omega arith)));
  }

  bounds_accepted : (job : ℕ) → job < p.jobs → AllByRecursion (IsAccepted (names p)) (bounds_job p job)
  bounds_accepted job h = (
    begins_accepted (names p) job (point_of job 0 h (omega arith)),
    all_append (IsAccepted (names p)) (each (p.machines - 1) (goes_on p job)) (finishes p job ∷ [])
        (all_each (IsAccepted (names p)) (p.machines - 1) (goes_on p job) (λ k l. (later_accepted (names p) job (k + 1) job k (duration p job k) (point_of job (k + 1) h (omega arith)) (point_of job k h (omega arith)) (small job k), tt)))
        (finishes_accepted job h, tt),
  )

  pair_accepted : (machine a later : ℕ) → a < p.jobs → later < p.jobs - 1 - a → AllByRecursion (IsAccepted (names p)) (pair_on p machine a later)
  pair_accepted machine a later h l =
      let i = operation_on p machine a in
      let j = operation_on p machine (a + 1 + later) in (
        apart_accepted (names p) a (operation_on p machine a) (a + 1 + later) (operation_on p machine (a + 1 + later)) (duration p a i) (duration p (a + 1 + later) j)
            (point_of a i h (on_machine p jobs some machines machine a)) (point_of (a + 1 + later) j (omega arith) (on_machine p jobs some machines machine (a + 1 + later))) (small a i) (small (a + 1 + later) j),
        tt,
      )

  terms_accepted : AllByRecursion (IsAccepted (names p)) (terms p)
  terms_accepted =
      all_append (IsAccepted (names p)) (each p.jobs (bounds_job p)) (each p.machines (pairs_on p)) (all_each (IsAccepted (names p)) p.jobs (bounds_job p) bounds_accepted)
      (all_each (IsAccepted (names p)) p.machines (pairs_on p)
      (λ machine h. all_each (IsAccepted (names p)) p.jobs (pairs_of p machine)
      (λ a l. all_each (IsAccepted (names p)) (p.jobs - 1 - a) (pair_on p machine a) (λ later m. pair_accepted machine a later l m))))

  -- ---- how many

  few_bounds : (job : ℕ) → length (bounds_job p job) ≤ 42
  few_bounds job =
      omega (arith, length-append (each (p.machines - 1) (goes_on p job)) (finishes p job ∷ []), long_each (p.machines - 1) 1 (goes_on p job) (λ k m. omega arith), machines)

  few_later : (machine a : ℕ) → length (pairs_of p machine a) ≤ 40
  few_later machine a = omega (arith, long_each (p.jobs - 1 - a) 1 (pair_on p machine a) (λ later l. omega arith), jobs)

  few_orders : (machine : ℕ) → length (pairs_on p machine) ≤ 1600
  few_orders machine = omega (arith, long_each p.jobs 40 (pairs_of p machine) (λ a l. few_later machine a), jobs)

  few_terms : length (terms p) ≤ 66000
  few_terms =
      omega (arith, length-append (each p.jobs (bounds_job p)) (each p.machines (pairs_on p)), long_each p.jobs 42 (bounds_job p) (λ job l. few_bounds job), long_each p.machines 1600 (pairs_on p) (λ machine l. few_orders machine), jobs, machines)

  -- ---- the whole

  -- where the commands before the check-sat lead
  pub ready : Goes start_state (told p) (IsReady (names p) (terms p) 1000000)
  ready = script_goes (names p) (terms p) names_new (omega (arith, starts_few p.jobs p.machines jobs machines)) terms_accepted (omega (arith, few_terms))

  pub asks_once : AsksOnce (script p) (told p) check CheckSat ready.t
  asks_once = record {
    text = script_text p jobs some machines;
    lines = script_lines p jobs some machines deadline;
    tells = tells_of (told p) start_state ready.t ready.tells;
    asks = after_check ready.t ready.holds.alone;
    taken = refl;
  }
