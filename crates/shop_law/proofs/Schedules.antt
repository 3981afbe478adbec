-- The values of the script's names in the order of declaration are m and then the starts, job after job.
use Rattle.std.proofs.Common.{◌≡◌, ◌∙◌, sym, ap, arith, ℕ, zero, suc, ◌+◌, ◌*◌, ◌<◌, ◌≤◌, List, [], ◌∷◌, ◌++◌, length, drop, append_assoc, append-nil, ℤ, pos}
use Rattle.std.specs.Prelude.{codes}
use Rattle.std.proofs.lemmas.List.{drop_more}
use Rattle.std.proofs.Math.Nat.{suc-mul}
use Rattle.idl_term.specs.Values.{whole, Named}
use Rattle.job_shop.specs.Shops.{Shop}
use Rattle.job_shop.specs.Scripts.{each, name, one_name, names_in, names_of}
use Rattle.job_shop.specs.Plans.{start_in}
use Rattle.shop_law.specs.Laws.{starts_at, starts_in, SchedulesAreStarts}
use Rattle.script_law.specs.Ints.{ints_on}

next_multiple : (n m : ℕ) → n * m + m ≡ suc n * m
next_multiple n m = sym (suc-mul n m)

module _ (s : Shop) (vs : List ℤ) where
  abbrev start : ℕ → ℕ → ℤ
  start = start_in s vs

  abbrev at : ℕ → ℕ → Named
  at j k = record { name = name j k; value = whole (start j k) }

  one : (xs : List (List ℕ)) (j k : ℕ) → j * s.machines + k < length vs
      → ints_on (name j k ∷ xs) (drop (j * s.machines + k) vs) ≡ at j k ∷ ints_on xs (drop (j * s.machines + k + 1) vs)
  one xs j k l = ap (ints_on (name j k ∷ xs)) (drop_more vs (j * s.machines + k) (pos 0) l)

  row : (n j : ℕ) (xs : List (List ℕ)) → j * s.machines + n ≤ length vs
      → ints_on (each n (one_name j) ++ xs) (drop (j * s.machines) vs) ≡ each n (starts_at start j) ++ ints_on xs (drop (j * s.machines + n) vs)
  row zero j xs l = let same : j * s.machines ≡ j * s.machines + 0 = omega arith in ap (λ (p : ℕ). ints_on xs (drop p vs)) same
  row (suc n) j xs l =
      let same : j * s.machines + n + 1 ≡ j * s.machines + suc n = omega arith in
      ap (λ (names : List (List ℕ)). ints_on names (drop (j * s.machines) vs)) (append_assoc (each n (one_name j)) (name j n ∷ []) xs)
      ∙ row n j (name j n ∷ xs) (omega arith)
      ∙ ap (λ (e : List Named). each n (starts_at start j) ++ e) (one xs j n (omega arith) ∙ ap (λ (p : ℕ). at j n ∷ ints_on xs (drop p vs)) same)
      ∙ sym (append_assoc (each n (starts_at start j)) (at j n ∷ []) (ints_on xs (drop (j * s.machines + suc n) vs)))

  rows : (n : ℕ) (xs : List (List ℕ)) → n * s.machines ≤ length vs
      → ints_on (each n (names_in s) ++ xs) vs ≡ each n (starts_in s start) ++ ints_on xs (drop (n * s.machines) vs)
  rows zero xs l = let none : 0 ≡ 0 * s.machines = omega arith in ap (λ (p : ℕ). ints_on xs (drop p vs)) none
  rows (suc n) xs l =
      let same : n * s.machines + s.machines ≡ suc n * s.machines = next_multiple n s.machines in
      let less_one : n * s.machines ≤ length vs = omega (arith, same, l) in
      ap (λ (names : List (List ℕ)). ints_on names vs) (append_assoc (each n (names_in s)) (names_in s n) xs)
      ∙ rows n (names_in s n ++ xs) less_one
      ∙ ap (λ (e : List Named). each n (starts_in s start) ++ e)
      (row s.machines n xs (omega (arith, same, l)) ∙ ap (λ (p : ℕ). starts_in s start n ++ ints_on xs (drop p vs)) same)
      ∙ sym (append_assoc (each n (starts_in s start)) (starts_in s start n) (ints_on xs (drop (suc n * s.machines) vs)))

  all_rows : length vs ≡ length s.jobs * s.machines → ints_on (names_of s) vs ≡ each (length s.jobs) (starts_in s start)
  all_rows e =
      ap (λ (names : List (List ℕ)). ints_on names vs) (sym (append-nil (names_of s)))
      ∙ rows (length s.jobs) [] (omega (arith, e)) ∙ append-nil (each (length s.jobs) (starts_in s start))

pub schedules_are_starts : SchedulesAreStarts
schedules_are_starts s m vs e = ap (λ (names : List Named). record { name = codes "m"; value = whole m } ∷ names) (all_rows s vs e)
