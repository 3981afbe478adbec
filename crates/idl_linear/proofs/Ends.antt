-- The ends of a difference, met one by one.
use Rattle.std.proofs.Common.{refl, ap, sym, subst, ◌∙◌, arith, ◌≡◌, ◌≢◌, ℕ, ◌<◌, ◌==◌, List, [], ◌∷◌, Bool, true, false, cond, ◌&&◌, ℤ, pos, negsuc, Option, Some, None}
use Rattle.std.proofs.lemmas.Bool.Decides.{nat_tests, Decides-int_eq}
use Rattle.std.specs.Ordering.{int_eq}
use Rattle.idl_linear.specs.declared.summand.Summand.{Summand}
use Rattle.idl_linear.specs.declared.difference.Ends.{Ends as Met}
use Rattle.idl_linear.specs.Linear.{put_before}
use Rattle.idl_linear.specs.Forms.{AscendAbove}
use Rattle.idl_linear.specs.Differences.{ends_of}
use Rattle.idl_linear.specs.code.Steps.{ends_with, ends_through}

-- what a coefficient is to a difference
data Kind (c : ℤ) : Type 0 where
  one : int_eq c (pos 0) ≡ false → int_eq c (pos 1) ≡ true → int_eq c (negsuc 0) ≡ false → Kind c
  minus : int_eq c (pos 0) ≡ false → int_eq c (pos 1) ≡ false → int_eq c (negsuc 0) ≡ true → Kind c
  other : int_eq c (pos 0) ≡ false → int_eq c (pos 1) ≡ false → int_eq c (negsuc 0) ≡ false → Kind c

apart : (c : ℤ) → int_eq c (pos 1) ≡ true → int_eq c (negsuc 0) ≡ true → ⊥
apart c e f =
    let a : c ≡ pos 1 = (Decides-int_eq c (pos 1)).0 e in
    let b : c ≡ negsuc 0 = (Decides-int_eq c (negsuc 0)).0 f in
    cc

kind_by : (c : ℤ) (z b n : Bool) → int_eq c (pos 0) ≡ z → int_eq c (pos 1) ≡ b → int_eq c (negsuc 0) ≡ n → c ≢ pos 0 → Kind c
kind_by c true b n e f g some = absurd (some ((Decides-int_eq c (pos 0)).0 e))
kind_by c false true true e f g some = absurd (apart c f g)
kind_by c false true false e f g some = one e f g
kind_by c false false true e f g some = minus e f g
kind_by c false false false e f g some = other e f g

kind_of : (c : ℤ) → c ≢ pos 0 → Kind c
kind_of c some = kind_by c (int_eq c (pos 0)) (int_eq c (pos 1)) (int_eq c (negsuc 0)) refl refl refl some

abbrev ends : ℕ → ℕ → Met
ends x y = record { x = x; y = y }

abbrev start : Met
start = record { x = 0; y = 0 }

module _ (s : Summand) (z : int_eq s.coefficient (pos 0) ≡ false) where
  first_one : (y : ℕ) → int_eq s.coefficient (pos 1) ≡ true → ends_with (ends 0 y) s ≡ Some (ends s.point y)
  first_one y b = rw (z, b) refl

  first_minus : (x : ℕ) → int_eq s.coefficient (pos 1) ≡ false → int_eq s.coefficient (negsuc 0) ≡ true → ends_with (ends x 0) s ≡ Some (ends x s.point)
  first_minus x b n = rw (z, b, n) refl

  no_other : (x y : ℕ) → int_eq s.coefficient (pos 1) ≡ false → int_eq s.coefficient (negsuc 0) ≡ false → ends_with (ends x y) s ≡ None
  no_other x y b n = rw (z, b, n) refl

  second_one : (x y : ℕ) → (x == 0) ≡ false → int_eq s.coefficient (pos 1) ≡ true → int_eq s.coefficient (negsuc 0) ≡ false → ends_with (ends x y) s ≡ None
  second_one x y p b n = rw (z, b, n, p) refl

  second_minus : (x y : ℕ) → (y == 0) ≡ false → int_eq s.coefficient (pos 1) ≡ false → int_eq s.coefficient (negsuc 0) ≡ true → ends_with (ends x y) s ≡ None
  second_minus x y p b n = rw (z, b, n, p) refl

-- both ends are there
full : (x y : ℕ) (u : Summand) (us : List Summand) → (x == 0) ≡ false → (y == 0) ≡ false → Kind u.coefficient → ends_through (Some (ends x y)) (u ∷ us) ≡ None
full x y u us p q (one z b n) = ap (λ (o : Option Met). ends_through o us) (second_one u z x y p b n)
full x y u us p q (minus z b n) = ap (λ (o : Option Met). ends_through o us) (second_minus u z x y q b n)
full x y u us p q (other z b n) = ap (λ (o : Option Met). ends_through o us) (no_other u z x y b n)

module _ (s t : Summand) (rest : List Summand) where
  after : (m : Met) → ends_with start s ≡ Some m → (o : Option Met) → ends_with m t ≡ o → ends_through (Some start) (s ∷ t ∷ rest) ≡ ends_through o rest
  after m e o f = ap (λ (o : Option Met). ends_through o (t ∷ rest)) e ∙ ap (λ (o : Option Met). ends_through o rest) f

  -- two that aren't 0
  two : (s.point == 0) ≡ false → Kind s.coefficient → Kind t.coefficient
      → ends_through (Some start) (s ∷ t ∷ rest)
      ≡ cond (int_eq s.coefficient (pos 1) && int_eq t.coefficient (negsuc 0)) (ends_through (Some (ends s.point t.point)) rest)
      (cond (int_eq s.coefficient (negsuc 0) && int_eq t.coefficient (pos 1)) (ends_through (Some (ends t.point s.point)) rest) None)
  two p (one z b n) (one i j k) = after (ends s.point 0) (first_one s z 0 b) None (second_one t i s.point 0 p j k) ∙ rw (b, n, k) refl
  two p (one z b n) (minus i j k) = after (ends s.point 0) (first_one s z 0 b) (Some (ends s.point t.point)) (first_minus t i s.point j k) ∙ rw (b, k) refl
  two p (one z b n) (other i j k) = after (ends s.point 0) (first_one s z 0 b) None (no_other t i s.point 0 j k) ∙ rw (b, n, k) refl
  two p (minus z b n) (one i j k) = after (ends 0 s.point) (first_minus s z 0 b n) (Some (ends t.point s.point)) (first_one t i s.point j) ∙ rw (b, n, j) refl
  two p (minus z b n) (minus i j k) = after (ends 0 s.point) (first_minus s z 0 b n) None (second_minus t i 0 s.point p j k) ∙ rw (b, n, j) refl
  two p (minus z b n) (other i j k) = after (ends 0 s.point) (first_minus s z 0 b n) None (no_other t i 0 s.point j k) ∙ rw (b, n, j) refl
  two p (other z b n) k = ap (λ (o : Option Met). ends_through o (t ∷ rest)) (no_other s z 0 0 b n) ∙ rw (b, n) refl

all_none : (b c : Bool) (u v : Option (ℕ × ℕ)) → u ≡ None → v ≡ None → cond b u (cond c v None) ≡ None
all_none true c u v e f = e
all_none false true u v e f = f
all_none false false u v e f = refl

single : (s : Summand) → Kind s.coefficient → ends_through (Some start) (s ∷ []) ≡ ends_of (s ∷ [])
single s (one z b n) = ap (λ (o : Option Met). ends_through o []) (first_one s z 0 b) ∙ rw b refl
single s (minus z b n) = ap (λ (o : Option Met). ends_through o []) (first_minus s z 0 b n) ∙ rw (b, n) refl
single s (other z b n) = ap (λ (o : Option Met). ends_through o []) (no_other s z 0 0 b n) ∙ rw (b, n) refl

not_zero : (p q : ℕ) → p < q → (q == 0) ≡ false
not_zero p q lt = grind (arith, nat_tests)

-- met one by one, the ends are those of the whole list
pub ends_from_start : (l : List Summand) → AscendAbove 0 l → ends_through (Some (record { x = 0; y = 0 })) l ≡ ends_of l
ends_from_start [] a = refl
ends_from_start (s ∷ []) a = single s (kind_of s.coefficient a.1)
ends_from_start (s ∷ t ∷ []) a = two s t [] (not_zero 0 s.point a.0) (kind_of s.coefficient a.1) (kind_of t.coefficient a.2.1)
ends_from_start (s ∷ t ∷ u ∷ us) a =
    two s t (u ∷ us) (not_zero 0 s.point a.0) (kind_of s.coefficient a.1) (kind_of t.coefficient a.2.1)
    ∙ all_none (int_eq s.coefficient (pos 1) && int_eq t.coefficient (negsuc 0)) (int_eq s.coefficient (negsuc 0) && int_eq t.coefficient (pos 1))
    (ends_through (Some (ends s.point t.point)) (u ∷ us)) (ends_through (Some (ends t.point s.point)) (u ∷ us))
    (full s.point t.point u us (not_zero 0 s.point a.0) (not_zero s.point t.point a.2.0) (kind_of u.coefficient a.2.2.1))
    (full t.point s.point u us (not_zero s.point t.point a.2.0) (not_zero 0 s.point a.0) (kind_of u.coefficient a.2.2.1))

-- a step
step_by : (e : Met) (s : Summand) (rest : List Summand) (b : Bool) → int_eq s.coefficient (pos 0) ≡ b → ends_through (Some e) (cond b rest (s ∷ rest)) ≡ ends_through (ends_with e s) rest
step_by e s rest true h =
    let same : Some e ≡ ends_with e s = rw h refl in
    ap (λ (o : Option Met). ends_through o rest) same
step_by e s rest false h = refl

pub ends_step : (e : Met) (s : Summand) (rest whole : List Summand) (o : Option Met) → whole ≡ put_before s rest → o ≡ ends_with e s → ends_through (Some e) whole ≡ ends_through o rest
ends_step e s rest whole o h f =
    ap (ends_through (Some e)) h ∙ step_by e s rest (int_eq s.coefficient (pos 0)) refl ∙ ap (λ (p : Option Met). ends_through p rest) (sym f)

-- ends are over the same time points
abbrev pub IsBelow : ℕ → Option Met → Type 0
IsBelow limit None = Unit {0}
IsBelow limit (Some e) = (e.x < limit) × (e.y < limit)
