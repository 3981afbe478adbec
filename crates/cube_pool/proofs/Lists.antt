-- Facts of lists: what holds of each element goes on through a pop, a push and a store.
use Rattle.std.proofs.Common.{arith, ◌≡◌, ◌≢◌, ℕ, zero, suc, ◌<◌, ◌≤◌, ◌+◌, ◌⊎◌, inl, inr, All, List, [], ◌∷◌, ◌++◌, length, map, set, take, Some, Option, refl, sym, ap, ◌∙◌, subst, MatchOption, None}
use Rattle.std.specs.Prelude.{slice_get, sum_by}
use Rattle.std.proofs.Math.ListN.{get_or, get_or-append}
use Rattle.std.proofs.Math.Seq.{get_or-append_seam}
use Rattle.std.proofs.lemmas.List.Sums.{sum_by-append}
use Rattle.std.proofs.lemmas.List.Elements.{All-nil, All-cons, All-head, All-tail, All-push}
use Rattle.std.proofs.lemmas.Option.{slice_get-get_or, get_or_from_slice_get}
use Rattle.std.proofs.lemmas.List.{length-append, length-set, get_or-set_same, get_or-set_other}

pub same_or_not : (m n : ℕ) → (m ≡ n) ⊎ (m ≢ n)
same_or_not zero zero = inl refl
same_or_not zero (suc n) = inr (λ e. absurd (omega arith))
same_or_not (suc m) zero = inr (λ e. absurd (omega arith))
same_or_not (suc m) (suc n) = elim (same_or_not m n) [ inl e ↦ inl (ap suc e) | inr ne ↦ inr (λ e. ne (omega arith)) ]

pub length_pushed : {A : Type 0} (s t : List A) (x : A) → s ≡ t ++ x ∷ [] → length s ≡ length t + 1
length_pushed s t x e = ap length e ∙ length-append t (x ∷ [])

-- before the last element all is as it is in the whole
pub first_of : {A : Type 0} (P : ℕ → A → Type 0) (s t : List A) (x : A) → s ≡ t ++ x ∷ []
    → ((k : ℕ) (d : A) → k < length s → P k (get_or s k d)) → (k : ℕ) (d : A) → k < length t → P k (get_or t k d)
first_of {A = A} P s t x e h k d l =
    let same : get_or s k d ≡ get_or t k d = ap (λ (ys : List A). get_or ys k d) e ∙ get_or-append t (x ∷ []) d k l in
    subst (P k) same (h k d (omega (arith, length_pushed s t x e)))

pub last_of : {A : Type 0} (P : ℕ → A → Type 0) (s t : List A) (x : A) → s ≡ t ++ x ∷ []
    → ((k : ℕ) (d : A) → k < length s → P k (get_or s k d)) → P (length t) x
last_of {A = A} P s t x e h =
    let same : get_or s (length t) x ≡ x = ap (λ (ys : List A). get_or ys (length t) x) e ∙ get_or-append_seam t x [] x in
    subst (P (length t)) same (h (length t) x (omega (arith, length_pushed s t x e)))

pub all_pushed : {A : Type 0} (P : ℕ → A → Type 0) (s t : List A) (x : A) → s ≡ t ++ x ∷ []
    → ((k : ℕ) (d : A) → k < length t → P k (get_or t k d)) → P (length t) x → (k : ℕ) (d : A) → k < length s → P k (get_or s k d)
all_pushed {A = A} P s t x e h last k d l = elim (same_or_not k (length t)) [
  | inl is ↦
      (let same : get_or s k d ≡ x = ap (λ (ys : List A). get_or ys k d) e ∙ (ap (λ (n : ℕ). get_or (t ++ x ∷ []) n d) is ∙ get_or-append_seam t x [] d) in
      subst (λ (n : ℕ). P n (get_or s k d)) (sym is) (subst (P (length t)) (sym same) last))
  | inr ne ↦
      (let few : k < length t = (let n = length_pushed s t x e in omega (arith, ne)) in
      let same : get_or s k d ≡ get_or t k d = ap (λ (ys : List A). get_or ys k d) e ∙ get_or-append t (x ∷ []) d k few in
      subst (P k) (sym same) (h k d few))
]

pub all_set : {A : Type 0} (P : ℕ → A → Type 0) (xs : List A) (i : ℕ) (y : A) → i < length xs → P i y
    → ((k : ℕ) (d : A) → k ≢ i → k < length xs → P k (get_or xs k d)) → (k : ℕ) (d : A) → k < length (set xs i y) → P k (get_or (set xs i y) k d)
all_set {A = A} P xs i y l here h k d less = elim (same_or_not k i) [
  | inl is ↦
      (let same : get_or (set xs i y) k d ≡ y = ap (λ (n : ℕ). get_or (set xs i y) n d) is ∙ get_or-set_same xs i y d l in
      subst (λ (n : ℕ). P n (get_or (set xs i y) k d)) (sym is) (subst (P i) (sym same) here))
  | inr ne ↦
      (let few : k < length xs = omega (arith, length-set xs i y) in
      subst (P k) (sym (get_or-set_other xs i k y d ne)) (h k d ne few))
]

-- one list is a front of the other
abbrev pub IsFrontOf : {A : Type 0} → List A → List A → Type 0
IsFrontOf {A} xs all = (k : ℕ) (d : A) → k < length xs → get_or xs k d ≡ get_or all k d

pub front_popped : {A : Type 0} (all s t : List A) (x : A) → s ≡ t ++ x ∷ [] → IsFrontOf s all → IsFrontOf t all
front_popped {A = A} all s t x e h k d l =
    let same : get_or s k d ≡ get_or t k d = ap (λ (ys : List A). get_or ys k d) e ∙ get_or-append t (x ∷ []) d k l in
    sym same ∙ h k d (omega (arith, length_pushed s t x e))

pub last_is : {A : Type 0} (all s t : List A) (x d : A) → s ≡ t ++ x ∷ [] → IsFrontOf s all → x ≡ get_or all (length t) d
last_is {A = A} all s t x d e h =
    let same : get_or s (length t) d ≡ x = ap (λ (ys : List A). get_or ys (length t) d) e ∙ get_or-append_seam t x [] d in
    sym same ∙ h (length t) d (omega (arith, length_pushed s t x e))

-- all of a list, and of its two parts
pub all_parts : {A : Type 0} (P : A → Type 0) (xs ys : List A) → All P (xs ++ ys) → All P xs × All P ys
all_parts P [] ys h = (All-nil P, h)
all_parts P (x ∷ xs) ys h =
    let rest = all_parts P xs ys (All-tail P x (xs ++ ys) h) in
    (All-cons P x xs (All-head P x (xs ++ ys) h) rest.0, rest.1)

pub all_none : {A : Type 0} (P : A → Type 0) (xs : List A) → length xs ≡ 0 → All P xs
all_none P [] none = All-nil P
all_none P (x ∷ xs) none = absurd (omega (arith, none))

pub all_popped : {A : Type 0} (P : A → Type 0) (s t : List A) (x : A) → s ≡ t ++ x ∷ [] → All P s → All P t × P x
all_popped P s t x e h = (first_of (λ k y. P y) s t x e h, last_of (λ k y. P y) s t x e h)

pub all_longer : {A : Type 0} (P : A → Type 0) (s t : List A) (x : A) → s ≡ t ++ x ∷ [] → All P t → P x → All P s
all_longer P s t x e h p = subst (All P) (sym e) (All-push P t x h p)

-- an element that is there doesn't depend on what stands for one that isn't
pub get_or_any : {A : Type 0} (xs : List A) (k : ℕ) (d e : A) → k < length xs → get_or xs k d ≡ get_or xs k e
get_or_any [] k d e l = absurd (omega arith)
get_or_any (x ∷ xs) zero d e l = refl
get_or_any (x ∷ xs) (suc k) d e l = get_or_any xs k d e (omega arith)

-- what f makes of the first ones is known, and so of them without the last
pub heads : {A B : Type 0} (f : A → B) (pool : List B) (t : List A) (p : A) (m : ℕ) → map f (t ++ p ∷ []) ≡ take m pool → m ≡ length t + 1
    → (map f t ≡ take (length t) pool) × (slice_get pool (length t) ≡ Some (f p))
heads f pool t p zero e is = absurd (omega arith)
heads f [] [] p (suc m) e is = absurd (cc e)
heads f [] (a ∷ t) p (suc m) e is = absurd (cc e)
heads f (b ∷ pool) [] p (suc m) e is = let same : f p ≡ b = cc e in (refl, ap (λ x. Some x) (sym same))
heads {B = B} f (b ∷ pool) (a ∷ t) p (suc m) e is =
    let same : f a ≡ b = cc e in
    let rest = heads f pool t p m (cc e) (omega arith) in
    let both : f a ∷ map f t ≡ b ∷ take (length t) pool = cc (same, rest.0) in
    (both, rest.1)

pub take_more : {A : Type 0} (xs : List A) (k : ℕ) (x : A) → slice_get xs k ≡ Some x → take (k + 1) xs ≡ take k xs ++ x ∷ []
take_more [] k x e = absurd (cc e)
take_more (y ∷ xs) zero x e = let same : y ≡ x = cc e in ap (λ z. z ∷ []) same
take_more {A = A} (y ∷ xs) (suc k) x e =
    let rest : take (k + 1) xs ≡ take k xs ++ x ∷ [] = take_more xs k x e in
    let P : ℕ → Type 0 = λ n. take n (y ∷ xs) ≡ y ∷ (take k xs ++ x ∷ []) in
    subst P {x = suc (k + 1)} {y = suc k + 1} (omega arith) (ap (λ (ys : List A). y ∷ ys) rest)

pub sum_by_more : {A : Type 0} (f : A → ℕ) (x : A) (xs : List A) → sum_by f (x ∷ xs) ≡ f x + sum_by f xs
sum_by_more f x xs = let one : sum_by f (x ∷ xs) ≡ (0 + f x) + sum_by f xs = sum_by-append f (x ∷ []) xs in omega (arith, one)

pub sum_by_map : {A B : Type 0} (f : B → ℕ) (g : A → B) (xs : List A) → sum_by f (map g xs) ≡ sum_by (λ x. f (g x)) xs
sum_by_map f g [] = refl
sum_by_map f g (x ∷ xs) =
    sum_by_more f (g x) (map g xs) ∙ (ap (λ n. f (g x) + n) (sum_by_map f g xs) ∙ sym (sum_by_more (λ y. f (g y)) x xs))

pub match_option : {X : Type 0} {A C : Type 0} {B D : X → Type 0} (r : Option X) → MatchOption r A B → (A → C) → ((x : X) → B x → D x) → MatchOption r C D
match_option None h f g = f h
match_option (Some x) h f g = g x h

-- of two lists with one image, the elements at one place
pub same_at : {A B C : Type 0} (f : A → C) (g : B → C) (xs : List A) (ys : List B) (k : ℕ) (d : A) (e : B) → map f xs ≡ map g ys → k < length ys → f (get_or xs k d) ≡ g (get_or ys k e)
same_at f g [] [] k d e is l = absurd (omega arith)
same_at f g [] (y ∷ ys) k d e is l = absurd (cc is)
same_at f g (x ∷ xs) [] k d e is l = absurd (omega arith)
same_at f g (x ∷ xs) (y ∷ ys) zero d e is l = cc is
same_at f g (x ∷ xs) (y ∷ ys) (suc k) d e is l = same_at f g xs ys k d e (cc is) (omega arith)

pub gets_pushed : {A : Type 0} (f : ℕ → A) (s t : List A) (x : A) → s ≡ t ++ x ∷ [] → ((k : ℕ) → k < length t → slice_get t k ≡ Some (f k)) → x ≡ f (length t)
    → (k : ℕ) → k < length s → slice_get s k ≡ Some (f k)
gets_pushed {A = A} f s t x e h is k l =
    let P : ℕ → A → Type 0 = λ n y. y ≡ f n in
    let before : (n : ℕ) (d : A) → n < length t → get_or t n d ≡ f n = λ n d less. get_or_from_slice_get t n (f n) d (h n less) in
    slice_get-get_or s k x l ∙ ap (λ y. Some y) (all_pushed P s t x e before is k x l)

pub either_side : (m n : ℕ) → m ≢ n → (m < n) ⊎ (n + 1 ≤ m)
either_side zero zero ne = absurd (ne refl)
either_side zero (suc n) ne = inl (omega arith)
either_side (suc m) zero ne = inr (omega arith)
either_side (suc m) (suc n) ne = elim (either_side m n (λ e. ne (ap suc e))) [ inl l ↦ inl (omega (arith, l)) | inr l ↦ inr (omega (arith, l)) ]
