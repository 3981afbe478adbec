-- Taking lowerings back.
use Rattle.std.proofs.Common.{arith, refl, ap, sym, ◌∙◌, inl, inr, ◌⊎◌, ◌≡◌, ℕ, zero, suc, ◌<◌, ◌≤◌, ◌+◌, ◌-◌, List, [], ◌∷◌, ◌++◌, length, take, drop, set, All, ℤ, pos}
use Rattle.std.proofs.lemmas.Bool.{cases_eq}
use Rattle.std.proofs.lemmas.List.{ext_get_or, get_or-drop, get_or-set_same, get_or-set_other, length_push, length-drop, length-set, length-take, take_more, take_all, drop_all}
use Rattle.std.proofs.lemmas.List.Elements.{All-push, All-take}
use Rattle.stn_core.specs.Literal.{value_at}
use Rattle.inc_paths.specs.declared.labels.Lowering.{Lowering}
use Rattle.inc_paths.specs.code.Trails.{no_lowering, entry_at, undone, first_of, IsLabelled}

pub undone-append : (es ds : List Lowering) (values : List ℤ) → undone (es ++ ds) values ≡ undone es (undone ds values)
undone-append [] ds values = refl
undone-append (e ∷ es) ds values = ap (λ (v : List ℤ). set v e.literal.x e.old) (undone-append es ds values)

pub length-undone : (es : List Lowering) (values : List ℤ) → length (undone es values) ≡ length values
length-undone [] values = refl
length-undone (e ∷ es) values = length-set (undone es values) e.literal.x e.old ∙ length-undone es values

pub drop-append : (xs ys : List Lowering) (i : ℕ) → i ≤ length xs → drop i (xs ++ ys) ≡ drop i xs ++ ys
drop-append xs ys zero h = refl
drop-append [] ys (suc i) h = absurd (omega arith)
drop-append (x ∷ xs) ys (suc i) h = drop-append xs ys i (omega arith)

-- without the last lowering, which set a value back
pub first_of-last : (start : ℕ) (trail : List Lowering) (values : List ℤ) → start < length trail → first_of start trail values ≡ first_of start (take (length trail - 1) trail) (set values (entry_at trail (length trail - 1)).literal.x (entry_at trail (length trail - 1)).old)
first_of-last start trail values lt =
    let last : ℕ = length trail - 1 in
    let e : Lowering = entry_at trail last in
    let front : List Lowering = take last trail in
    let split : trail ≡ front ++ e ∷ [] = whole trail last (omega arith) in
    let size : length front ≡ last = length-take-le last trail (omega arith) in
    ap (λ (es : List Lowering). undone (drop start es) values) split ∙ ap (λ (es : List Lowering). undone es values) (drop-append front (e ∷ []) start (omega arith)) ∙ undone-append (drop start front) (e ∷ []) values
  where
    whole : (trail : List Lowering) (last : ℕ) → length trail ≡ last + 1 → trail ≡ take last trail ++ entry_at trail last ∷ []
    whole trail last e = sym (take_all (last + 1) trail (omega arith)) ∙ take_more trail last no_lowering (omega arith)

    length-take-le : (n : ℕ) (xs : List Lowering) → n ≤ length xs → length (take n xs) ≡ n
    length-take-le n xs h = omega (arith, length-take n xs)

pub first_of-none : (start : ℕ) (trail : List Lowering) (values : List ℤ) → length trail ≤ start → first_of start trail values ≡ values
first_of-none start trail values h = ap (λ (es : List Lowering). undone es values) (drop_all start trail h)

pub set_back : (values : List ℤ) (x : ℕ) (a : ℤ) → set (set values x a) x (value_at values x) ≡ values
set_back [] x a = refl
set_back (v ∷ vs) zero a = refl
set_back (v ∷ vs) (suc x) a = ap (λ (ws : List ℤ). v ∷ ws) (set_back vs x a)

-- with a lowering more
pub first_of-more : (start : ℕ) (trail : List Lowering) (values : List ℤ) (e : Lowering) (v : ℤ) → start ≤ length trail → e.old ≡ value_at values e.literal.x → first_of start (trail ++ e ∷ []) (set values e.literal.x v) ≡ first_of start trail values
first_of-more start trail values e v within old =
    ap (λ (es : List Lowering). undone es (set values e.literal.x v)) (drop-append trail (e ∷ []) start within)
    ∙ undone-append (drop start trail) (e ∷ []) (set values e.literal.x v)
    ∙ ap (undone (drop start trail)) (ap (λ (a : ℤ). set (set values e.literal.x v) e.literal.x a) old ∙ set_back values e.literal.x v)

points_kept : (values : List ℤ) (x : ℕ) (v : ℤ) (trail : List Lowering) → All (λ (e : Lowering). e.literal.x < length values) trail → All (λ (e : Lowering). e.literal.x < length (set values x v)) trail
points_kept values x v trail points = rw (length-set values x v) points

pub labelled_more : (values : List ℤ) (trail : List Lowering) (start : ℕ) (before : List ℤ) (e : Lowering) (v : ℤ) → IsLabelled values trail start before → e.literal.x < length values → e.old ≡ value_at values e.literal.x → IsLabelled (set values e.literal.x v) (trail ++ e ∷ []) start before
labelled_more values trail start before e v h lt old =
    let within = h.within in
    record {
      points = points_kept values e.literal.x v (trail ++ e ∷ []) (All-push (λ (d : Lowering). d.literal.x < length values) trail e h.points lt);
      count = h.count ∙ sym (length-set values e.literal.x v);
      within = omega (arith, length_push trail e);
      began = h.began ∙ sym (first_of-more start trail values e v h.within old);
    }

-- the last lowering is taken back
module _ (values : List ℤ) (trail : List Lowering) (start : ℕ) (before : List ℤ) (h : IsLabelled values trail start before) (some : 0 < length trail) where
  abbrev pub last_of : Lowering
  last_of = entry_at trail (length trail - 1)

  abbrev pub values_back : List ℤ
  values_back = set values last_of.literal.x last_of.old

  abbrev pub trail_back : List Lowering
  trail_back = take (length trail - 1) trail

  points_back : All (λ (e : Lowering). e.literal.x < length values_back) trail_back
  points_back = points_kept values last_of.literal.x last_of.old trail_back (All-take (λ (d : Lowering). d.literal.x < length values) (length trail - 1) trail h.points)

  count_back : length before ≡ length values_back
  count_back = h.count ∙ sym (length-set values last_of.literal.x last_of.old)

  -- it came after the start
  pub labelled_less : (values' : List ℤ) (trail' : List Lowering) → values' ≡ values_back → trail' ≡ trail_back → start < length trail → IsLabelled values' trail' start before
  labelled_less values' trail' v t lt =
      let kept : IsLabelled values_back trail_back start before = record {
        points = points_back;
        count = count_back;
        within = omega (arith, length-take (length trail - 1) trail);
        began = h.began ∙ first_of-last start trail values lt;
      } in
      rw (v, t) kept

  -- the start is the end
  pub labelled_back : (values' : List ℤ) (trail' : List Lowering) (start' : ℕ) (before' : List ℤ) → values' ≡ values_back → trail' ≡ trail_back → start' ≡ length trail - 1 → before' ≡ set before last_of.literal.x last_of.old → length trail - 1 < start → IsLabelled values' trail' start' before'
  labelled_back values' trail' start' before' v t s b past =
      let within = h.within in
      let all : before ≡ values = h.began ∙ first_of-none start trail values (omega arith) in
      let kept : IsLabelled values_back trail_back (length trail - 1) (set before last_of.literal.x last_of.old) = record {
        points = points_back;
        count = length-set before last_of.literal.x last_of.old ∙ count_back;
        within = omega (arith, length-take (length trail - 1) trail);
        began = ap (λ (vs : List ℤ). set vs last_of.literal.x last_of.old) all ∙ sym (first_of-none (length trail - 1) trail_back values_back (omega (arith, length-take (length trail - 1) trail)));
      } in
      rw (v, t, s, b) kept

-- a point's value is the one that it had before, or a lowering is still to be copied
abbrev pub IsCopied : List ℤ → List Lowering → List ℤ → ℕ → ℕ → Type 0
IsCopied values trail before place point =
    (value_at before point ≡ value_at values point) ⊎ ((k : ℕ) × (place ≤ k) × (k < length trail) × ((entry_at trail k).literal.x ≡ point))

undone_at : (es : List Lowering) (values : List ℤ) (p : ℕ) → (value_at (undone es values) p ≡ value_at values p) ⊎ ((k : ℕ) × (k < length es) × ((entry_at es k).literal.x ≡ p))
undone_at [] values p = inl refl
undone_at (e ∷ es) values p = elim (cases_eq p e.literal.x) [
  | inl here ↦ inr (zero, omega arith, sym here)
  | inr away ↦ elim (undone_at es values p) [
    | inl same ↦ inl (get_or-set_other (undone es values) e.literal.x p e.old (pos 0) away ∙ same)
    | inr later ↦ inr (suc later.0, (let lt = later.1 in omega arith), later.2)
  ]
]

pub copied_first : (values : List ℤ) (trail : List Lowering) (before : List ℤ) (start : ℕ) → before ≡ first_of start trail values → (p : ℕ) → IsCopied values trail before start p
copied_first values trail before start is p = elim (undone_at (drop start trail) values p) [
  | inl same ↦ inl (ap (λ (vs : List ℤ). value_at vs p) is ∙ same)
  | inr later ↦
      let lt = later.1 in
      inr (start + later.0, omega arith, omega (arith, length-drop start trail), sym (ap (λ (d : Lowering). d.literal.x) (get_or-drop start trail later.0 no_lowering)) ∙ later.2)
]

pub copied_all : (values : List ℤ) (trail : List Lowering) (before : List ℤ) (place : ℕ) → length trail ≤ place → length before ≡ length values → ((p : ℕ) → IsCopied values trail before place p) → before ≡ values
copied_all values trail before place past count h = ext_get_or (pos 0) before values count (λ p lt. elim (h p) [
  | inl same ↦ same
  | inr later ↦ (let from = later.1 in let within = later.2 in absurd (omega arith))
])

pub take-take : {X : Type 0} → (n m : ℕ) (xs : List X) → n ≤ m → take n (take m xs) ≡ take n xs
take-take zero m xs h = refl
take-take (suc n) zero xs h = absurd (omega arith)
take-take (suc n) (suc m) [] h = refl
take-take {X = X} (suc n) (suc m) (x ∷ xs) h = ap {A = List X} (λ ys. x ∷ ys) (take-take n m xs (omega arith))
