-- Operations behind operations, and jobs behind jobs, within their limits.
use Rattle.std.proofs.Common.{◌≡◌, ◌≢◌, ◌∙◌, refl, sym, subst, arith, ℕ, zero, suc, ◌+◌, ◌<◌, ◌≤◌, ◌==◌, ◌||◌, Bool, true, false, true≢false, List, [], ◌∷◌, ◌++◌, length, length-append, get_or, inl, inr}
use Rattle.std.proofs.lemmas.Bool.{cases_lt}
use Rattle.std.proofs.lemmas.Bool.Decides.{nat_tests}
use Rattle.std.proofs.lemmas.Grind.{common_steps}
use Rattle.job_shop.specs.declared.shop.Operation.{Operation}
use Rattle.job_shop.specs.Shops.{IsRow, IsJob, has_machine, operation_in}
use Rattle.job_shop.specs.code.Reading.{IsOperation}

front_is : (job : List Operation) (o : Operation) (k : ℕ) → k < length job → operation_in (job ++ o ∷ []) k ≡ operation_in job k
front_is job o k l = grind (arith, common_steps, l)

last_is : (job : List Operation) (o : Operation) (k : ℕ) → k ≡ length job → operation_in (job ++ o ∷ []) k ≡ o
last_is job o k e = grind (arith, common_steps, e)

none_of : (a b : Bool) → (a || b) ≡ false → (a ≡ false) × (b ≡ false)
none_of true b h = absurd (true≢false h)
none_of false b h = (refl, h)

not_among : (machine : ℕ) (job : List Operation) (k : ℕ) → has_machine machine job ≡ false → k < length job → ((operation_in job k).machine == machine) ≡ false
not_among machine [] k h l = absurd (omega arith)
not_among machine (o ∷ job) zero h l = (none_of (o.machine == machine) (has_machine machine job) h).0
not_among machine (o ∷ job) (suc k) h l = not_among machine job k (none_of (o.machine == machine) (has_machine machine job) h).1 (omega arith)

differs : (a b : ℕ) → (a == b) ≡ false → a ≢ b
differs a b h e = let same : (a == b) ≡ true = grind (arith, nat_tests, e) in absurd (true≢false (sym same ∙ h))

pub no_row : (machines : ℕ) → IsRow machines []
no_row machines = record { machine = λ k l. absurd (omega arith); short = λ k l. absurd (omega arith); once = λ k l h m. absurd (omega arith) }

module _ (machines : ℕ) (job : List Operation) (o : Operation) (row : IsRow machines job) (is : IsOperation machines job o) where
  long : length (job ++ o ∷ []) ≡ length job + 1
  long = length-append job (o ∷ [])

  pub row_more : IsRow machines (job ++ o ∷ [])
  row_more = record {
    machine = λ k l. elim (cases_lt k (length job)) [
      | inl below ↦ subst (λ (p : Operation). p.machine < machines) (sym (front_is job o k below)) (row.machine k below)
      | inr high ↦ subst (λ (p : Operation). p.machine < machines) (sym (last_is job o k (omega (arith, long, l)))) is.machine
    ];
    short = λ k l. elim (cases_lt k (length job)) [
      | inl below ↦ subst (λ (p : Operation). p.duration ≤ 1000000) (sym (front_is job o k below)) (row.short k below)
      | inr high ↦ subst (λ (p : Operation). p.duration ≤ 1000000) (sym (last_is job o k (omega (arith, long, l)))) is.short
    ];
    once = λ k m h l. elim (cases_lt m (length job)) [
      | inl below ↦ subst (λ (p : Operation). p.machine ≢ (operation_in (job ++ o ∷ []) m).machine) (sym (front_is job o k (omega (arith, h, below))))
          (subst (λ (p : Operation). (operation_in job k).machine ≢ p.machine) (sym (front_is job o m below)) (row.once k m h below))
      | inr high ↦ (let there : k < length job = omega (arith, h, long, l) in
          subst (λ (p : Operation). p.machine ≢ (operation_in (job ++ o ∷ []) m).machine) (sym (front_is job o k there))
          (subst (λ (p : Operation). (operation_in job k).machine ≢ p.machine) (sym (last_is job o m (omega (arith, long, l, high))))
          (differs (operation_in job k).machine o.machine (not_among o.machine job k is.new there))))
    ];
  }

-- ---- jobs

pub jobs_more : (machines i : ℕ) (done : List (List Operation)) (job : List Operation) → length done ≡ i → ((j : ℕ) → j < i → IsJob machines (get_or done j [])) → IsJob machines job
    → (j : ℕ) → j < i + 1 → IsJob machines (get_or (done ++ job ∷ []) j [])
jobs_more machines i done job e each is j l = elim (cases_lt j i) [
  | inl below ↦ (let same : get_or (done ++ job ∷ []) j [] ≡ get_or done j [] = grind (arith, common_steps, e, below) in subst (IsJob machines) (sym same) (each j below))
  | inr high ↦ (let same : get_or (done ++ job ∷ []) j [] ≡ job = grind (arith, common_steps, e, high, l) in subst (IsJob machines) (sym same) is)
]
