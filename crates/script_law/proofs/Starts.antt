-- The names of the starts of operations: one for each of so many machines, for each of so many jobs.
use Rattle.std.proofs.Common.{◌≡◌, refl, arith, ℕ, zero, suc, ◌*◌, ◌<◌, ◌≤◌, true, false, List, ◌++◌, length}
use Rattle.std.specs.List.{list_any}
use Rattle.std.specs.Str.{bytes_eq}
use Rattle.idl_apply.specs.Operators.{theory_symbols, reserved_words}
use Rattle.job_shop.specs.Scripts.{each, name, one_name}
use Rattle.job_shop.proofs.Names.{same_job, same_place, other_name, own_name}
use Rattle.script_law.proofs.Lists.{all_append, all_each, long_each, length_each}
use Rattle.script_law.proofs.Going.{one_in_each}
use Rattle.script_law.proofs.States.{Absent, IsUsual, AreNew, new_append}

pub name_usual : (j k : ℕ) → IsUsual (name j k)
unfolding name theory_symbols reserved_words
name_usual j k = record { not_true = refl; not_false = refl; free = refl }

new_each : (base : List (List ℕ)) (n : ℕ) (items : ℕ → List (List ℕ)) → ((i : ℕ) → i < n → AreNew (base ++ each i items) (items i)) → AreNew base (each n items)
new_each base zero items h = tt
new_each base (suc n) items h =
    new_append base (each n items) (items n) (new_each base n items (λ i l. h i (omega arith))) (h n (omega arith))

abbrev pub starts_of : ℕ → ℕ → List (List ℕ)
starts_of machines j = each machines (one_name j)

pub starts_many : (jobs machines : ℕ) → length (each jobs (starts_of machines)) ≡ jobs * machines
starts_many jobs machines =
    length_each jobs machines (starts_of machines) (λ j. (let ones = length_each machines 1 (one_name j) (λ k. refl) in omega (arith, ones)))

module _ (jobs machines : ℕ) (few : jobs ≤ 40) (short : machines ≤ 40) where
  other_job : (j k a i : ℕ) → j < jobs → a < j → bytes_eq (name j k) (name a i) ≡ false
  other_job j k a i l less_job =
      other_name (name j k) (name a i) (λ e. let same : j ≡ a = same_job j k a i (omega (arith, few, l)) (omega (arith, few, l)) e in absurd (omega (arith, same)))

  other_place : (j k i : ℕ) → j < jobs → k < machines → i < k → bytes_eq (name j k) (name j i) ≡ false
  other_place j k i l low less_place =
      other_name (name j k) (name j i) (λ e. let same : k ≡ i = same_place j k j i (omega (arith, few, l)) (omega (arith, few, l)) (omega (arith, short, low)) (omega (arith, short, low)) e in absurd (omega (arith, same)))

  module _ (base : List (List ℕ)) (apart : (j k : ℕ) → Absent (name j k) base) where
    absent : (j k : ℕ) → j < jobs → k < machines → Absent (name j k) ((base ++ each j (starts_of machines)) ++ each k (one_name j))
    absent j k l low =
        let P : List ℕ → Type 0 = λ y. bytes_eq (name j k) y ≡ false in
        all_append P (base ++ each j (starts_of machines)) (each k (one_name j))
        (all_append P base (each j (starts_of machines)) (apart j k) (all_each P j (starts_of machines) (λ a m. all_each P machines (one_name a) (λ i n. (other_job j k a i l m, tt)))))
        (all_each P k (one_name j) (λ i n. (other_place j k i l low n, tt)))

    -- no two of them are one, and none is one of the base
    pub starts_new : AreNew base (each jobs (starts_of machines))
    starts_new =
        new_each base jobs (starts_of machines)
        (λ j l. new_each (base ++ each j (starts_of machines)) machines (one_name j) (λ k low. ((name_usual j k, absent j k l low), tt)))

  pub starts_few : length (each jobs (starts_of machines)) ≤ 1600
  starts_few =
      let row : (j : ℕ) → j < jobs → length (starts_of machines j) ≤ 40 = λ j l. omega (arith, long_each machines 1 (one_name j) (λ k m. omega arith), short) in
      omega (arith, long_each jobs 40 (starts_of machines) row, few)

  pub start_among : (j k : ℕ) → j < jobs → k < machines → list_any (bytes_eq (name j k)) (each jobs (starts_of machines)) ≡ true
  start_among j k l low =
      let own : list_any (bytes_eq (name j k)) (one_name j k) ≡ true = rw (own_name (name j k)) refl in
      one_in_each (bytes_eq (name j k)) jobs j (starts_of machines) l (one_in_each (bytes_eq (name j k)) machines k (one_name j) low own)
