-- The values of the script's names.
use Rattle.std.proofs.Common.{◌≡◌, ◌∙◌, refl, ap, arith, ℕ, ◌<◌, Bool, false, List, length, ℤ}
use Rattle.std.specs.Prelude.{codes, if◌then◌else◌}
use Rattle.std.specs.Str.{bytes_eq}
use Rattle.smt_sexpr.specs.Shapes.{symbol}
use Rattle.idl_term.specs.Values.{whole, Named, value, looked_up}
use Rattle.job_shop.specs.Shops.{Shop, IsShop, Has}
use Rattle.job_shop.specs.Scripts.{each, name, point, bound}
use Rattle.job_shop.proofs.Names.{same_job, same_place, other_name, own_name}
use Rattle.shop_law.specs.Laws.{starts_at, starts_in, names_on}
use Rattle.shop_law.proofs.Looking.{Lacks, found_each}
use Rattle.script_law.proofs.Lists.{all_each}

plain : (j k : ℕ) (env : List Named) → value env (symbol (name j k)) ≡ looked_up (name j k) env
unfolding name
plain j k env = refl

not_m : (j k : ℕ) → bytes_eq (name j k) (codes "m") ≡ false
unfolding name
not_m j k = refl

module _ (s : Shop) (is : IsShop s) (m : ℤ) (start : ℕ → ℕ → ℤ) where
  other_job : (j k a : ℕ) → Has s j k → a < j → Lacks (name j k) (starts_in s start a)
  other_job j k a has less_job =
      let few = is.few_jobs in
      let low = has.0 in
      all_each (λ (n : Named). bytes_eq (name j k) n.name ≡ false) s.machines (starts_at start a)
      (λ i h. (other_name (name j k) (name a i) (λ e. let same : j ≡ a = same_job j k a i (omega (arith, few, low)) (omega (arith, few, low)) e in absurd (omega (arith, same))), tt))

  other_place : (j k i : ℕ) → Has s j k → i < k → Lacks (name j k) (starts_at start j i)
  other_place j k i has less_place =
      let few = is.few_jobs in
      let low = has.0 in
      let short = is.few in
      let place = has.1 in
      (other_name (name j k) (name j i) (λ e. let same : k ≡ i = same_place j k j i (omega (arith, few, low)) (omega (arith, few, low)) (omega (arith, short, place)) (omega (arith, short, place)) e in absurd (omega (arith, same))), tt)

  here : (j k : ℕ) → looked_up (name j k) (starts_at start j k) ≡ whole (start j k)
  here j k = rw (own_name (name j k)) refl

  found : (j k : ℕ) → Has s j k → looked_up (name j k) (each (length s.jobs) (starts_in s start)) ≡ whole (start j k)
  found j k has =
      found_each (name j k) (start j k) (length s.jobs) j (starts_in s start) has.0 (λ a l. other_job j k a has l)
      (found_each (name j k) (start j k) s.machines k (starts_at start j) has.1 (λ i l. other_place j k i has l) (here j k))

  pub point_value : (j k : ℕ) → Has s j k → value (names_on s m start) (point j k) ≡ whole (start j k)
  unfolding point
  point_value j k has =
      plain j k (names_on s m start)
      ∙ ap (λ (b : Bool). if b then whole m else looked_up (name j k) (each (length s.jobs) (starts_in s start))) (not_m j k)
      ∙ found j k has

  pub bound_value : value (names_on s m start) bound ≡ whole m
  unfolding bound
  bound_value = refl
