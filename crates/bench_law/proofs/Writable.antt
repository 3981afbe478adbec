-- Each command of a plan's script can be written.
use Rattle.std.proofs.Common.{refl, arith, ℕ, ◌+◌, ◌-◌, ◌^◌, ◌<◌, ◌≤◌, [], ◌∷◌, ◌++◌}
use Rattle.std.specs.Prelude.{codes}
use Rattle.std.specs.List.{AllByRecursion}
use Rattle.smt_lex.specs.Bytes.{is_quoted_byte}
use Rattle.smt_sexpr.specs.Printing.{IsWritable}
use Rattle.smt_sexpr.specs.Shapes.{symbol}
use Rattle.dtp_gen.specs.Plans.{Plan, duration, operation_on}
use Rattle.job_shop.specs.Scripts.{each, numeral, point, all_assert, all_declare, exit}
use Rattle.script_law.specs.Told.{AreLines}
use Rattle.script_law.proofs.Lists.{all_append, all_each}
use Rattle.script_law.proofs.Reading.{lines_append}
use Rattle.script_law.proofs.Writable.{two, at_most, numeral_writable, point_writable, begins_writable, later_writable, apart_writable, all_asserted, all_declared, starts_writable, logic_line}
use Rattle.bench_law.proofs.Commands.{names, goes_on, end_of, finishes, bounds_job, keeps_apart, pair_on, pairs_of, pairs_on, terms, check, told, short_duration, on_machine}

plus : IsWritable (symbol (codes "+"))
unfolding is_quoted_byte
plus = refl

last_lines : AreLines (check ∷ exit ∷ [])
unfolding is_quoted_byte
last_lines = (((refl, tt), λ rest. tt), (((refl, tt), λ rest. tt), tt))

module _ (p : Plan) (jobs : p.jobs ≤ 40) (some : 1 ≤ p.machines) (machines : p.machines ≤ 40) (deadline : p.deadline < 2 ^ 32) where
  named : (job k : ℕ) → job < 41 → k < 41 → IsWritable (point job k)
  named job k h l = point_writable job k (omega arith) (omega arith)

  small : (job k : ℕ) → duration p job k < 2 ^ 64
  small job k = omega (arith, short_duration p job k)

  finish_writable : (job : ℕ) → job < p.jobs → IsWritable (finishes p job)
  finish_writable job h =
      two (codes "<=") (end_of p job) (numeral p.deadline) at_most
      (two (codes "+") (point job (p.machines - 1)) (numeral (duration p job (p.machines - 1))) plus (named job (p.machines - 1) (omega arith) (omega arith)) (numeral_writable (duration p job (p.machines - 1)) (small job (p.machines - 1))))
      (numeral_writable p.deadline (omega arith))

  bounds_writable : (job : ℕ) → job < p.jobs → AllByRecursion IsWritable (bounds_job p job)
  bounds_writable job h = (
    begins_writable job (named job 0 (omega arith) (omega arith)),
    all_append IsWritable (each (p.machines - 1) (goes_on p job)) (finishes p job ∷ [])
        (all_each IsWritable (p.machines - 1) (goes_on p job) (λ k l. (later_writable job (k + 1) job k (duration p job k) (named job (k + 1) (omega arith) (omega arith)) (named job k (omega arith) (omega arith)) (small job k), tt)))
        (finish_writable job h, tt),
  )

  apart_is_writable : (a i b j : ℕ) → a < 41 → i < 41 → b < 41 → j < 41 → IsWritable (keeps_apart p a i b j)
  apart_is_writable a i b j ha hi hb hj = apart_writable a i b j (duration p a i) (duration p b j) (named a i ha hi) (named b j hb hj) (small a i) (small b j)

  place_small : (machine job : ℕ) → operation_on p machine job < 41
  place_small machine job = omega (arith, on_machine p jobs some machines machine job)

  pair_writable : (machine a later : ℕ) → a < p.jobs → later < p.jobs - 1 - a → AllByRecursion IsWritable (pair_on p machine a later)
  pair_writable machine a later h l =
      (apart_is_writable a (operation_on p machine a) (a + 1 + later) (operation_on p machine (a + 1 + later)) (omega arith) (place_small machine a) (omega arith) (place_small machine (a + 1 + later)), tt)

  terms_writable : AllByRecursion IsWritable (terms p)
  terms_writable =
      all_append IsWritable (each p.jobs (bounds_job p)) (each p.machines (pairs_on p)) (all_each IsWritable p.jobs (bounds_job p) bounds_writable)
      (all_each IsWritable p.machines (pairs_on p)
      (λ machine h. all_each IsWritable p.jobs (pairs_of p machine)
      (λ a l. all_each IsWritable (p.jobs - 1 - a) (pair_on p machine a) (λ later m. pair_writable machine a later l m))))

  pub script_lines : AreLines (told p ++ (check ∷ exit ∷ []))
  script_lines =
      lines_append (told p) (check ∷ exit ∷ [])
      (logic_line, lines_append (all_declare (names p)) (all_assert (terms p)) (all_declared (names p) (starts_writable p.jobs p.machines (omega arith) (omega arith))) (all_asserted (terms p) terms_writable))
      last_lines
