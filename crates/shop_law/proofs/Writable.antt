-- Each command of a job shop's script can be written, and is read again.
use Rattle.std.proofs.Common.{◌≡◌, refl, arith, ℕ, ◌+◌, ◌-◌, ◌<◌, ◌^◌, Option, Some, None, [], ◌∷◌, length}
use Rattle.std.specs.Prelude.{codes}
use Rattle.std.specs.List.{AllByRecursion}
use Rattle.smt_lex.specs.Bytes.{is_quoted_byte}
use Rattle.smt_sexpr.specs.Printing.{IsWritable}
use Rattle.smt_sexpr.specs.Shapes.{form}
use Rattle.smt_sexpr.specs.Laws.{SexprReadsBack}
use Rattle.job_shop.specs.Shops.{Shop, IsShop, Has, duration}
use Rattle.job_shop.specs.Scripts.{each, less, point, bound, before, goes_on, ends, apart, goes_on_one, bounds_of, operation_on, apart_by, apart_on, apart_from_later, orders_of, terms_of, lines_of, all_assert, all_declare, names_of, minimize, exit, commands_before, commands_of, script}
use Rattle.shop_law.specs.Laws.{ScriptIsRead}
use Rattle.script_law.specs.Told.{AreLines}
use Rattle.script_law.proofs.Lists.{all_append, all_each}
use Rattle.script_law.proofs.Reading.{lines_append, script_back}
use Rattle.script_law.proofs.Writable.{IsWord, two, minus, at_most, less_writable, point_writable, begins_writable, later_writable, apart_writable, all_asserted, all_declared, starts_writable, logic_line}
use Rattle.shop_law.proofs.Machines.{on_is}

bound_writable : IsWritable bound
unfolding bound is_quoted_byte
bound_writable = refl

m_word : IsWord (codes "m")
unfolding is_quoted_byte
m_word = refl

last_lines : AreLines (minimize ∷ exit ∷ [])
unfolding is_quoted_byte bound
last_lines = (((refl, (refl, tt)), λ rest. tt), (((refl, tt), λ rest. tt), tt))

module _ (s : Shop) (is : IsShop s) where
  here : (j k : ℕ) → Has s j k → IsWritable (point j k)
  here j k has =
      let few = is.few_jobs in
      let low = has.0 in
      let short = is.few in
      let place = has.1 in
      point_writable j k (omega (arith, few, low)) (omega (arith, short, place))

  small : (j k : ℕ) → Has s j k → duration s j k < 2 ^ 64
  small j k has =
      let job = is.job j has.0 in
      let many = job.many in
      let place = has.1 in
      let short = job.row.short k (omega (arith, many, place)) in
      omega (arith, short)

  goes_on_writable : (j k : ℕ) → Has s j k → Has s j (k + 1) → IsWritable (goes_on s j k)
  unfolding goes_on
  goes_on_writable j k has next = later_writable j (k + 1) j k (duration s j k) (here j (k + 1) next) (here j k has) (small j k has)

  ends_writable : (j : ℕ) → Has s j (s.machines - 1) → IsWritable (ends s j)
  unfolding ends
  ends_writable j has =
      two (codes "<=") (form (codes "-") (point j (s.machines - 1) ∷ bound ∷ [])) (less (duration s j (s.machines - 1))) at_most
      (two (codes "-") (point j (s.machines - 1)) bound minus (here j (s.machines - 1) has) bound_writable)
      (less_writable (duration s j (s.machines - 1)) (small j (s.machines - 1) has))

  apart_is_writable : (a i b j : ℕ) → Has s a i → Has s b j → IsWritable (apart s a i b j)
  unfolding apart before
  apart_is_writable a i b j ha hb = apart_writable a i b j (duration s a i) (duration s b j) (here a i ha) (here b j hb) (small a i ha) (small b j hb)

  apart_by_writable : (machine a b : ℕ) (o p : Option ℕ) → a < length s.jobs → b < length s.jobs → operation_on s.machines s machine a ≡ o → operation_on s.machines s machine b ≡ p → AllByRecursion IsWritable (apart_by s a b o p)
  apart_by_writable machine a b (Some i) (Some j) la lb eo ep = (apart_is_writable a i b j (la, (on_is s machine a s.machines i eo).0) (lb, (on_is s machine b s.machines j ep).0), tt)
  apart_by_writable machine a b None p la lb eo ep = tt
  apart_by_writable machine a b (Some i) None la lb eo ep = tt

  pair_writable : (machine a later : ℕ) → a < length s.jobs → later < length s.jobs - 1 - a → AllByRecursion IsWritable (apart_on s machine a later)
  unfolding apart_on
  pair_writable machine a later ha hl =
      apart_by_writable machine a (a + 1 + later) (operation_on s.machines s machine a) (operation_on s.machines s machine (a + 1 + later)) ha (omega arith) refl refl

  job_writable : (j : ℕ) → j < length s.jobs → AllByRecursion IsWritable (bounds_of s j)
  job_writable j l =
      let some = is.some in
      let final : Has s j (s.machines - 1) = (l, omega (arith, some)) in (
        begins_writable j (here j 0 (l, omega (arith, some))),
        all_append IsWritable (each (s.machines - 1) (goes_on_one s j)) (ends s j ∷ [])
            (all_each IsWritable (s.machines - 1) (goes_on_one s j) (λ k h. (goes_on_writable j k (l, omega arith) (l, omega arith), tt)))
            (ends_writable j final, tt),
      )

  terms_writable : AllByRecursion IsWritable (terms_of s)
  terms_writable =
      all_append IsWritable (each (length s.jobs) (bounds_of s)) (each s.machines (orders_of s)) (all_each IsWritable (length s.jobs) (bounds_of s) job_writable)
      (all_each IsWritable s.machines (orders_of s)
      (λ machine hm. all_each IsWritable (length s.jobs) (apart_from_later s machine)
      (λ a ha. all_each IsWritable (length s.jobs - 1 - a) (apart_on s machine a) (λ later hl. pair_writable machine a later ha hl))))

  names_writable : AllByRecursion IsWord (names_of s)
  names_writable =
      let few = is.few_jobs in
      let short = is.few in
      starts_writable (length s.jobs) s.machines (omega (arith, few)) (omega (arith, short))

  pub lines : AreLines (commands_of s)
  lines =
      lines_append (commands_before s) (minimize ∷ exit ∷ [])
      (logic_line, lines_append (all_declare (codes "m" ∷ names_of s)) (all_assert (terms_of s)) (all_declared (codes "m" ∷ names_of s) (m_word, names_writable)) (all_asserted (terms_of s) terms_writable))
      last_lines

script_text : (s : Shop) → script s ≡ lines_of (commands_of s)
unfolding script
script_text s = refl

pub script_is_read : SexprReadsBack → ScriptIsRead
script_is_read back s is = script_back back (script s) (commands_before s) minimize (script_text s) (lines s is)
