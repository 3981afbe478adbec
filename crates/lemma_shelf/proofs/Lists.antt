-- Lists, by place.
use Rattle.std.proofs.Common.{arith, ◌≡◌, ℕ, zero, suc, ◌<◌, ◌≤◌, ◌+◌, List, [], ◌∷◌, ◌++◌, length, take, Option, Some, None, All, Contains, flat_map, ◌⊎◌, inl, inr, refl, ap, ◌∙◌}
use Rattle.std.specs.Prelude.{slice_get, MatchOption}
use Rattle.std.proofs.lemmas.List.Elements.{All-nil, All-cons, All-head, All-tail, All-append}
use Rattle.std.proofs.lemmas.Option.{slice_get-get_or}

pub get_longer : {A : Type 0} (xs ys : List A) (j : ℕ) (x : A) → slice_get xs j ≡ Some x → slice_get (xs ++ ys) j ≡ Some x
get_longer [] ys j x e = absurd (cc)
get_longer (z ∷ xs) ys zero x e = e
get_longer (z ∷ xs) ys (suc j) x e = get_longer xs ys j x e

pub get_behind : {A : Type 0} (xs ys : List A) (j : ℕ) → slice_get (xs ++ ys) (length xs + j) ≡ slice_get ys j
get_behind [] ys j = ap (slice_get ys) (omega arith)
get_behind (z ∷ xs) ys j =
    let k : length (z ∷ xs) + j ≡ suc (length xs + j) = omega arith in
    ap (slice_get ((z ∷ xs) ++ ys)) k ∙ get_behind xs ys j

pub get_last : {A : Type 0} (xs : List A) (x : A) → slice_get (xs ++ x ∷ []) (length xs) ≡ Some x
get_last xs x = let k : length xs ≡ length xs + 0 = omega arith in ap (slice_get (xs ++ x ∷ [])) k ∙ get_behind xs (x ∷ []) 0

pub get_take : {A : Type 0} (n : ℕ) (xs : List A) (j : ℕ) → j < n → slice_get (take n xs) j ≡ slice_get xs j
get_take zero xs j lt = absurd (omega arith)
get_take (suc n) [] j lt = refl
get_take (suc n) (x ∷ xs) zero lt = refl
get_take (suc n) (x ∷ xs) (suc j) lt = get_take n xs j (omega arith)

pub get_taken : {A : Type 0} (n : ℕ) (xs : List A) (j : ℕ) (x : A) → slice_get (take n xs) j ≡ Some x → slice_get xs j ≡ Some x
get_taken zero xs j x e = absurd (cc)
get_taken (suc n) [] j x e = absurd (cc)
get_taken (suc n) (y ∷ xs) zero x e = e
get_taken (suc n) (y ∷ xs) (suc j) x e = get_taken n xs j x e

pub take_more : {A : Type 0} (xs : List A) (k : ℕ) (x : A) → slice_get xs k ≡ Some x → take (k + 1) xs ≡ take k xs ++ x ∷ []
take_more [] k x e = absurd (cc)
take_more (y ∷ xs) zero x e = let s : y ≡ x = cc in let k : zero + 1 ≡ suc zero = omega arith in ap (λ n. take n (y ∷ xs)) k ∙ ap (λ z. z ∷ []) s
take_more (y ∷ xs) (suc k) x e = let n : suc k + 1 ≡ suc (k + 1) = omega arith in ap (λ m. take m (y ∷ xs)) n ∙ ap (λ zs. y ∷ zs) (take_more xs k x e)

pub at_contained : {A : Type 0} (xs : List A) (k : ℕ) (x : A) → slice_get xs k ≡ Some x → Contains xs x
at_contained [] k x e = absurd (cc)
at_contained (y ∷ ys) zero x e = let s : y ≡ x = cc in (0, omega arith, s)
at_contained (y ∷ ys) (suc k) x e = let h = at_contained ys k x e in (suc h.0, omega (arith, h.1), h.2)

pub contained_at : {A : Type 0} (xs : List A) (x : A) → Contains xs x → (k : ℕ) × (slice_get xs k ≡ Some x)
contained_at xs x h = (h.0, slice_get-get_or xs h.0 x h.1 ∙ ap (λ z. Some z) h.2)

pub none_of : (A : Type 0) (found : Option ℕ) (P : ℕ → Type 0) → MatchOption found A P → ((n : ℕ) → found ≡ Some n → ⊥) → A
none_of A None P h not_some = h
none_of A (Some n) P h not_some = absurd (not_some n refl)

pub get_parts : {A : Type 0} (xs ys : List A) (k : ℕ) (x : A) → slice_get (xs ++ ys) k ≡ Some x → ((k < length xs) × (slice_get xs k ≡ Some x)) ⊎ ((length xs ≤ k) × Contains ys x)
get_parts [] ys k x e = inr (omega arith, at_contained ys k x e)
get_parts (z ∷ xs) ys zero x e = inl (omega arith, e)
get_parts (z ∷ xs) ys (suc k) x e = elim (get_parts xs ys k x e) [
  | inl h ↦ let lt = h.0 in inl (omega (arith, lt), h.1)
  | inr h ↦ let le = h.0 in inr (omega (arith, le), h.1)
]

pub some_there : {A : Type 0} (xs : List A) (k : ℕ) → k < length xs → (x : A) × (slice_get xs k ≡ Some x)
some_there [] k lt = absurd (omega arith)
some_there (x ∷ xs) zero lt = (x, refl)
some_there (x ∷ xs) (suc k) lt = some_there xs k (omega arith)

pub all_flat : {X Y : Type 0} (P : Y → Type 0) (f : X → List Y) (xs : List X) → All (λ (x : X). All P (f x)) xs → All P (flat_map f xs)
all_flat P f [] all = All-nil P
all_flat {X} P f (x ∷ xs) all =
    let Q : X → Type 0 = λ (z : X). All P (f z) in
    All-append P (f x) (flat_map f xs) (All-head Q x xs all) (all_flat P f xs (All-tail Q x xs all))

pub all_before : {Y : Type 0} (P : Y → Type 0) (xs ys : List Y) → All P (xs ++ ys) → All P xs
all_before P [] ys h = All-nil P
all_before P (x ∷ xs) ys h = All-cons P x xs (All-head P x (xs ++ ys) h) (all_before P xs ys (All-tail P x (xs ++ ys) h))

pub all_behind : {Y : Type 0} (P : Y → Type 0) (xs ys : List Y) → All P (xs ++ ys) → All P ys
all_behind P [] ys h = h
all_behind P (x ∷ xs) ys h = all_behind P xs ys (All-tail P x (xs ++ ys) h)

pub all_parts : {X Y : Type 0} (P : Y → Type 0) (f : X → List Y) (xs : List X) → All P (flat_map f xs) → All (λ (x : X). All P (f x)) xs
all_parts {X} P f [] all = All-nil (λ (x : X). All P (f x))
all_parts {X} P f (x ∷ xs) all =
    All-cons (λ (z : X). All P (f z)) x xs (all_before P (f x) (flat_map f xs) all) (all_parts P f xs (all_behind P (f x) (flat_map f xs) all))

pub take_before : {A : Type 0} (n : ℕ) (xs ys : List A) → n ≤ length xs → take n (xs ++ ys) ≡ take n xs
take_before zero xs ys le = refl
take_before (suc n) [] ys le = absurd (omega arith)
take_before (suc n) (x ∷ xs) ys le = ap (λ zs. x ∷ zs) (take_before n xs ys (omega arith))

pub take_front : {A : Type 0} (xs ys : List A) → take (length xs) (xs ++ ys) ≡ xs
take_front [] ys = refl
take_front (x ∷ xs) ys = ap (λ zs. x ∷ zs) (take_front xs ys)
