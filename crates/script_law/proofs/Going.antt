-- Where commands lead.
use Rattle.std.proofs.Common.{◌≡◌, refl, sym, subst, arith, ℕ, zero, suc, ◌<◌, Bool, true, false, true≢false, ◌||◌, List, [], ◌∷◌, ◌++◌, inl, inr, Ok}
use Rattle.std.specs.List.{list_any}
use Rattle.std.proofs.lemmas.Bool.{cases_lt}
use Rattle.smt_sexpr.specs.Tree.{Sexpr}
use Rattle.smt_script.specs.declared.state.Effect.TheVariants.{Tell}
use Rattle.smt_script.specs.declared.state.Notice.{Notice}
use Rattle.smt_script.specs.States.{State, after}
use Rattle.job_shop.specs.Scripts.{each}
use Rattle.script_law.specs.Told.{step_of}
use Rattle.script_law.proofs.Leading.{Leads}

pub tells_append : (xs ys : List Sexpr) (s t u : State) → Leads s xs t → Leads t ys u → Leads s (xs ++ ys) u
tells_append [] ys s t u h k = subst (λ (v : State). Leads v ys u) (sym h) k
tells_append (x ∷ xs) ys s t u (next, notice, e, h) k = (next, notice, e, tells_append xs ys next t u h k)

pub tells_one : (x : Sexpr) (s t : State) (notice : Notice) → after s x ≡ Ok (step_of t (Tell notice)) → Leads s (x ∷ []) t
tells_one x s t notice e = (t, notice, e, refl)

-- the commands are told of, and lead to a state of which this holds
pub record Goes (s : State) (xs : List Sexpr) (P : State → Type 0) : Type 0 where
  pub t : State
  pub tells : Leads s xs t
  pub holds : P t

pub goes_append : (s : State) (xs ys : List Sexpr) (P Q : State → Type 0) → Goes s xs P → ((t : State) → P t → Goes t ys Q) → Goes s (xs ++ ys) Q
goes_append s xs ys P Q h on =
    let k = on h.t h.holds in
    record { t = k.t; tells = tells_append xs ys s h.t k.t h.tells k.tells; holds = k.holds }

-- ---- what is in a list

module _ (test : List ℕ → Bool) where
  any_by : (x : List ℕ) (xs ys : List (List ℕ)) (b c : Bool) → test x ≡ c → (c || list_any test xs) ≡ false → (list_any test xs ≡ false → list_any test (xs ++ ys) ≡ b) → (test x || list_any test (xs ++ ys)) ≡ b
  any_by x xs ys b true e h on = absurd (true≢false h)
  any_by x xs ys b false e h on = rw e (on h)

  front_by : (x : List ℕ) (xs ys : List (List ℕ)) (c : Bool) → test x ≡ c → (c || list_any test xs) ≡ true → (list_any test xs ≡ true → list_any test (xs ++ ys) ≡ true) → (test x || list_any test (xs ++ ys)) ≡ true
  front_by x xs ys true e h on = rw e refl
  front_by x xs ys false e h on = rw e (on h)

  pub any_append : (xs ys : List (List ℕ)) (b : Bool) → list_any test xs ≡ false → list_any test ys ≡ b → list_any test (xs ++ ys) ≡ b
  any_append [] ys b h k = k
  any_append (x ∷ xs) ys b h k = any_by x xs ys b (test x) refl h (λ e. any_append xs ys b e k)

  any_front : (xs ys : List (List ℕ)) → list_any test xs ≡ true → list_any test (xs ++ ys) ≡ true
  any_front [] ys h = absurd (true≢false (sym h))
  any_front (x ∷ xs) ys h = front_by x xs ys (test x) refl h (λ k. any_front xs ys k)

  back_by : (xs ys : List (List ℕ)) (b : Bool) → list_any test xs ≡ b → list_any test ys ≡ true → list_any test (xs ++ ys) ≡ true
  back_by xs ys true e h = any_front xs ys e
  back_by xs ys false e h = any_append xs ys true e h

  pub one_in_each : (count i : ℕ) (items : ℕ → List (List ℕ)) → i < count → list_any test (items i) ≡ true → list_any test (each count items) ≡ true
  one_in_each zero i items l h = absurd (omega arith)
  one_in_each (suc count) i items l h = elim (cases_lt i count) [
    | inl below ↦ any_front (each count items) (items count) (one_in_each count i items below h)
    | inr high ↦ back_by (each count items) (items count) (list_any test (each count items)) refl (let same : i ≡ count = omega arith in subst (λ (k : ℕ). list_any test (items k) ≡ true) same h)
  ]
