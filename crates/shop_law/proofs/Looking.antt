-- Which value a name has in lists of lists.
use Rattle.std.proofs.Common.{◌≡◌, ◌∙◌, refl, subst, arith, ℕ, zero, suc, ◌<◌, Bool, true, false, List, [], ◌∷◌, ◌++◌, inl, inr, ℤ}
use Rattle.std.specs.Prelude.{if◌then◌else◌}
use Rattle.std.specs.List.{AllByRecursion}
use Rattle.std.specs.Str.{bytes_eq}
use Rattle.std.proofs.lemmas.Bool.{cases_lt}
use Rattle.idl_term.specs.Values.{whole, Named, looked_up}
use Rattle.job_shop.specs.Scripts.{each}
use Rattle.script_law.proofs.Lists.{all_each}

abbrev pub Lacks : List ℕ → List Named → Type 0
Lacks x names = AllByRecursion (λ (n : Named). bytes_eq x n.name ≡ false) names

pub behind : (x : List ℕ) (xs ys : List Named) → Lacks x xs → looked_up x (xs ++ ys) ≡ looked_up x ys
behind x [] ys h = refl
behind x (n ∷ xs) ys h = rw h.0 (behind x xs ys h.1)

front_by : (x : List ℕ) (n : Named) (xs ys : List Named) (v : ℤ) (b : Bool) → bytes_eq x n.name ≡ b → (if b then n.value else looked_up x xs) ≡ whole v
    → (looked_up x xs ≡ whole v → looked_up x (xs ++ ys) ≡ whole v) → (if bytes_eq x n.name then n.value else looked_up x (xs ++ ys)) ≡ whole v
front_by x n xs ys v true e h on = rw e h
front_by x n xs ys v false e h on = rw e (on h)

pub front : (x : List ℕ) (xs ys : List Named) (v : ℤ) → looked_up x xs ≡ whole v → looked_up x (xs ++ ys) ≡ whole v
front x [] ys v h = absurd cc
front x (n ∷ xs) ys v h = front_by x n xs ys v (bytes_eq x n.name) refl h (λ k. front x xs ys v k)

pub found_each : (x : List ℕ) (v : ℤ) (n i : ℕ) (items : ℕ → List Named) → i < n → ((a : ℕ) → a < i → Lacks x (items a)) → looked_up x (items i) ≡ whole v → looked_up x (each n items) ≡ whole v
found_each x v zero i items l before h = absurd (omega arith)
found_each x v (suc n) i items l before h = elim (cases_lt i n) [
  | inl below ↦ front x (each n items) (items n) v (found_each x v n i items below before h)
  | inr high ↦ (let same : i ≡ n = omega arith in
      behind x (each n items) (items n) (all_each (λ (m : Named). bytes_eq x m.name ≡ false) n items (λ a k. before a (omega (arith, same))))
      ∙ subst (λ (k : ℕ). looked_up x (items k) ≡ whole v) same h)
]
