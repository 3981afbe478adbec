-- Histories of a deque: their fronts, and what one more event makes of them.
use Rattle.std.proofs.Common.{arith, ◌≡◌, ℕ, zero, suc, ◌<◌, ◌≤◌, ◌+◌, ◌⊎◌, inl, inr, List, [], ◌∷◌, ◌++◌, length, drop, Some, refl, sym, ap, ◌∙◌, subst, append_assoc, append-nil}
use Rattle.std.specs.Prelude.{slice_get}
use Rattle.std.proofs.lemmas.List.{length-append}
use Rattle.std.proofs.lemmas.List.Elements.{All-weaker}
use mathlib.Core.List.{IsPrefix}
use Rattle.cube_pool.specs.declared.slip.Event.{Event}
use Rattle.cube_pool.specs.declared.slip.Event.TheVariants.{Pushed, Taken}
use Rattle.cube_pool.specs.declared.slip.Slip.{Slip}
use Rattle.cube_pool.specs.Lanes.{History, pushed_in, takings_in, left_in, oldest_in, IsLegal, Begins}

pub prefix_self : {A : Type 0} (xs : List A) → IsPrefix xs xs
prefix_self xs = ([], append-nil xs)

pub prefix_trans : {A : Type 0} (xs ys zs : List A) → IsPrefix xs ys → IsPrefix ys zs → IsPrefix xs zs
prefix_trans xs ys zs p q = (p.0 ++ q.0, sym (append_assoc xs p.0 q.0) ∙ (ap (λ w. w ++ q.0) p.1 ∙ q.1))

-- a front of a longer list is one of the list, or the whole
prefix_more : {A : Type 0} (front xs : List A) (x : A) → IsPrefix front (xs ++ x ∷ []) → IsPrefix front xs ⊎ (front ≡ xs ++ x ∷ [])
prefix_more [] xs x p = inl (xs, refl)
prefix_more (y ∷ []) [] x p = inr (let same : y ≡ x = cc (p.1) in ap (λ z. z ∷ []) same)
prefix_more (y ∷ z ∷ front) [] x p = absurd (cc (p.1))
prefix_more (y ∷ front) (z ∷ xs) x p =
    let same : y ≡ z = cc (p.1) in
    elim (prefix_more front xs x (p.0, cc (p.1))) [
      | inl q ↦ inl (q.0, cc (same, q.1))
      | inr e ↦ inr (cc (same, e))
    ]

pub takings_append : (xs ys : History) → takings_in (xs ++ ys) ≡ takings_in xs + takings_in ys
takings_append [] ys = omega arith
takings_append (Pushed n ∷ xs) ys = takings_append xs ys
takings_append (Taken ∷ xs) ys = omega (arith, takings_append xs ys)

pub pushed_append : (xs ys : History) → pushed_in (xs ++ ys) ≡ pushed_in xs ++ pushed_in ys
pushed_append [] ys = refl
pushed_append (Pushed n ∷ xs) ys = ap (λ (l : List ℕ). n ∷ l) (pushed_append xs ys)
pushed_append (Taken ∷ xs) ys = pushed_append xs ys

-- one event more
pub legal_more : (log : History) (event : Event) → IsLegal log → takings_in (log ++ event ∷ []) ≤ length (pushed_in (log ++ event ∷ [])) → IsLegal (log ++ event ∷ [])
legal_more log event legal now front p = elim (prefix_more front log event p) [
  | inl q ↦ legal front q
  | inr e ↦ subst (λ (l : History). takings_in l ≤ length (pushed_in l)) (sym e) now
]

pub legal_here : (log : History) → IsLegal log → takings_in log ≤ length (pushed_in log)
legal_here log legal = legal log (prefix_self log)

pub legal_none : IsLegal []
legal_none [] p = omega arith
legal_none (e ∷ front) p = absurd (cc (p.1))

pub legal_pushed : (log : History) (x : ℕ) → IsLegal log → IsLegal (log ++ Pushed x ∷ [])
legal_pushed log x legal = legal_more log (Pushed x) legal
    (let l = legal_here log legal in
    omega (arith, takings_append log (Pushed x ∷ []), ap length (pushed_append log (Pushed x ∷ [])), length-append (pushed_in log) (x ∷ []), l))

drop_within : (n : ℕ) (xs ys : List ℕ) → n ≤ length xs → drop n (xs ++ ys) ≡ drop n xs ++ ys
drop_within zero xs ys l = refl
drop_within (suc n) [] ys l = absurd (omega (arith, l))
drop_within (suc n) (x ∷ xs) ys l = drop_within n xs ys (omega (arith, l))

pub left_pushed : (log : History) (x : ℕ) → IsLegal log → left_in (log ++ Pushed x ∷ []) ≡ left_in log ++ x ∷ []
left_pushed log x legal =
    let t : takings_in (log ++ Pushed x ∷ []) ≡ takings_in log = omega (arith, takings_append log (Pushed x ∷ [])) in
    let p : pushed_in (log ++ Pushed x ∷ []) ≡ pushed_in log ++ x ∷ [] = pushed_append log (Pushed x ∷ []) in
    ap (λ (n : ℕ). drop n (pushed_in (log ++ Pushed x ∷ []))) t ∙ (ap (drop (takings_in log)) p ∙ drop_within (takings_in log) (pushed_in log) (x ∷ []) (legal_here log legal))

-- what stands first behind the first n
next_of : (n : ℕ) (xs items : List ℕ) (x : ℕ) → x ∷ items ≡ drop n xs → (slice_get xs n ≡ Some x) × (items ≡ drop (suc n) xs) × (n < length xs)
next_of zero [] items x e = absurd (cc e)
next_of zero (y ∷ xs) items x e = let same : x ≡ y = cc e in (ap (λ z. Some z) (sym same), cc e, omega arith)
next_of (suc n) [] items x e = absurd (cc e)
next_of (suc n) (y ∷ xs) items x e = let r = next_of n xs items x e in (r.0, r.1, omega (arith, r.2))

module _ (log : History) (x : ℕ) (items : List ℕ) (left : x ∷ items ≡ left_in log) where
  next : (slice_get (pushed_in log) (takings_in log) ≡ Some x) × (items ≡ drop (suc (takings_in log)) (pushed_in log)) × (takings_in log < length (pushed_in log))
  next = next_of (takings_in log) (pushed_in log) items x left

  pub oldest_first : oldest_in log ≡ Some x
  oldest_first = next.0

  pushes : pushed_in (log ++ Taken ∷ []) ≡ pushed_in log
  pushes = pushed_append log (Taken ∷ []) ∙ append-nil (pushed_in log)

  takings : takings_in (log ++ Taken ∷ []) ≡ suc (takings_in log)
  takings = omega (arith, takings_append log (Taken ∷ []))

  pub pushed_same : pushed_in (log ++ Taken ∷ []) ≡ pushed_in log
  pushed_same = pushes

  pub left_after : items ≡ left_in (log ++ Taken ∷ [])
  left_after =
      next.1 ∙ (ap (λ (n : ℕ). drop n (pushed_in log)) (sym takings) ∙ ap (drop (takings_in (log ++ Taken ∷ []))) (sym pushes))

  pub legal_taken : IsLegal log → IsLegal (log ++ Taken ∷ [])
  legal_taken legal = legal_more log Taken legal (omega (arith, takings, ap length pushes, next.2))

pub begins_more : (log longer : History) (v : Slip) → IsPrefix log longer → Begins log v → Begins longer v
begins_more log longer v p b = (
  prefix_trans v.known log longer b.0 p,
  All-weaker (λ (front : History). IsPrefix front log) (λ (front : History). IsPrefix front longer) (λ front q. prefix_trans front log longer q p) v.joined b.1,
)
