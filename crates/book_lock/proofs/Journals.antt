-- Runs and events of a journal that is one event longer.
use Rattle.std.proofs.Common.{◌≡◌, ◌≢◌, ℕ, ◌==◌, eq-eqb, ne_eqb, true, false, List, [], ◌∷◌, ◌++◌, length, refl, sym, ap, ◌∙◌, subst, arith, cond}
use Rattle.book_lock.proofs.Fronts.{prefix_whole, prefix_length}
use mathlib.Core.List.{IsPrefix}
use Rattle.book_core.specs.declared.event.Event.{Event}
use Rattle.stn_core.specs.declared.problem.Problem.{Problem}
use Rattle.book_core.specs.Books.{State, opened, IsAllowed, after}
use Rattle.book_core.specs.Runs.{Ledger, IsRunFrom, replayed_from}
use Rattle.book_lock.specs.Begun.{Runs, reached}
use Rattle.book_lock.specs.SeatEvents.{events_by, seat_of}

pub replayed_more : (s : State) (xs ys : List Event) → replayed_from s (xs ++ ys) ≡ replayed_from (replayed_from s xs) ys
replayed_more s [] ys = refl
replayed_more s (x ∷ xs) ys = replayed_more (after s x) xs ys

run_from_snoc : (p : Problem) (s : State) (es : List Event) (e : Event) → IsRunFrom p s es → IsAllowed p (replayed_from s es) e → IsRunFrom p s (es ++ e ∷ [])
run_from_snoc p s [] e h a = (a, tt)
run_from_snoc p s (x ∷ es) e h a = (h.0, run_from_snoc p (after s x) es e h.1 a)

pub run_snoc : (b : Ledger) (es : List Event) (e : Event) → Runs b es → IsAllowed b.problem (reached b es) e → Runs b (es ++ e ∷ [])
run_snoc b es e h a = run_from_snoc b.problem (opened b.opening) es e h a

pub run_first : (p : Problem) (s : State) (xs ys : List Event) → IsRunFrom p s (xs ++ ys) → IsRunFrom p s xs
run_first p s [] ys h = tt
run_first p s (x ∷ xs) ys h = (h.0, run_first p (after s x) xs ys h.1)

-- what follows a run's beginning is a run from there
pub run_rest : (p : Problem) (s : State) (xs ys : List Event) → IsRunFrom p s (xs ++ ys) → IsRunFrom p (replayed_from s xs) ys
run_rest p s [] ys h = h
run_rest p s (x ∷ xs) ys h = run_rest p (after s x) xs ys h.1

pub events_append : (n : ℕ) (xs ys : List Event) → events_by n (xs ++ ys) ≡ events_by n xs ++ events_by n ys
events_append n [] ys = refl
events_append n (x ∷ xs) ys =
    elim (seat_of x == n) as (λ b. cond b (x ∷ events_by n (xs ++ ys)) (events_by n (xs ++ ys)) ≡ cond b (x ∷ events_by n xs) (events_by n xs) ++ events_by n ys) [
      | true ↦ ap (λ w. x ∷ w) (events_append n xs ys)
      | false ↦ events_append n xs ys
    ]

pub events_own : (n : ℕ) (es : List Event) (e : Event) → seat_of e ≡ n → events_by n (es ++ e ∷ []) ≡ events_by n es ++ e ∷ []
events_own n es e is = events_append n es (e ∷ []) ∙ ap (λ b. events_by n es ++ cond b (e ∷ []) []) (eq-eqb (seat_of e) n is)

pub events_other : (n : ℕ) (es : List Event) (e : Event) → seat_of e ≢ n → events_by n (es ++ e ∷ []) ≡ events_by n es ++ []
events_other n es e not = events_append n es (e ∷ []) ∙ ap (λ b. events_by n es ++ cond b (e ∷ []) []) (ne_eqb (seat_of e) n not)

pub events_prefix : (n : ℕ) (xs ys : List Event) → IsPrefix xs ys → IsPrefix (events_by n xs) (events_by n ys)
events_prefix n xs ys p = (events_by n p.0, sym (events_append n xs p.0) ∙ ap (events_by n) p.1)

prefix_nil : {A : Type 0} (xs : List A) → IsPrefix xs [] → xs ≡ []
prefix_nil [] p = refl
prefix_nil (x ∷ xs) p = absurd (cc (p.1))

-- a seat with no call in the journal has none in a front of it
pub events_none : (n : ℕ) (xs ys : List Event) → IsPrefix xs ys → events_by n ys ≡ [] → events_by n xs ≡ []
events_none n xs ys p none = let P : List Event → Type 0 = λ l. IsPrefix (events_by n xs) l in prefix_nil (events_by n xs) (subst P none (events_prefix n xs ys p))

-- between two journals with the same events lie the same events
pub events_between : (n : ℕ) (xs ys zs : List Event) → IsPrefix xs ys → IsPrefix ys zs → events_by n xs ≡ events_by n zs → events_by n ys ≡ events_by n xs
events_between n xs ys zs p q same =
    let a = prefix_length (events_by n xs) (events_by n ys) (events_prefix n xs ys p) in
    let b = prefix_length (events_by n ys) (events_by n zs) (events_prefix n ys zs q) in
    let c : length (events_by n xs) ≡ length (events_by n zs) = ap length same in
    sym (prefix_whole (events_by n xs) (events_by n ys) (events_prefix n xs ys p) (omega arith))
