-- Lists of what is marked.
use Rattle.std.proofs.Common.{arith, ◌≡◌, ◌<◌, ◌≤◌, ◌+◌, ℕ, zero, suc, Bool, true, false, List, [], ◌∷◌, ◌++◌, length, take, drop, map, Some, refl, sym, ap, subst, ◌∙◌, append-nil, get_or, All}
use Rattle.std.specs.Prelude.{slice_get}
use Rattle.std.specs.List.{items_where_true, SwappedAt}
use Rattle.std.proofs.lemmas.List.{take_more, drop_more, take-set-le, drop-set-lt, length-set, take_all}
use Rattle.std.proofs.lemmas.List.Elements.{All-head, All-tail, All-cons, All-nil}
use Rattle.trim_lemmas.specs.Trimming.{place}

abbrev pub one_if : {X : Type 0} → Bool → X → List X
one_if true x = x ∷ []
one_if false x = []

module _ {X : Type 0} where
  pub picked_none : (bs : List Bool) → items_where_true {X = X} bs [] ≡ []
  picked_none [] = refl
  picked_none (b ∷ bs) = refl

  picked_suc : (bs : List Bool) (xs : List X) (i : ℕ) (d : X) → i < length xs → length bs ≡ length xs
      → items_where_true (take (suc i) bs) (take (suc i) xs) ≡ items_where_true (take i bs) (take i xs) ++ one_if (get_or bs i false) (get_or xs i d)
  picked_suc bs [] i d lt e = absurd (omega arith)
  picked_suc [] (x ∷ xs) i d lt e = absurd (omega arith)
  picked_suc (true ∷ bs) (x ∷ xs) zero d lt e = refl
  picked_suc (false ∷ bs) (x ∷ xs) zero d lt e = refl
  picked_suc (true ∷ bs) (x ∷ xs) (suc i) d lt e = ap (λ ys. x ∷ ys) (picked_suc bs xs i d (omega arith) (omega arith))
  picked_suc (false ∷ bs) (x ∷ xs) (suc i) d lt e = picked_suc bs xs i d (omega arith) (omega arith)

  pub picked_more : (bs : List Bool) (xs : List X) (i : ℕ) (d : X) → i < length xs → length bs ≡ length xs
      → items_where_true (take (i + 1) bs) (take (i + 1) xs) ≡ items_where_true (take i bs) (take i xs) ++ one_if (get_or bs i false) (get_or xs i d)
  picked_more bs xs i d lt e =
      let next : suc i ≡ i + 1 = omega arith in
      subst (λ (n : ℕ). items_where_true (take n bs) (take n xs) ≡ items_where_true (take i bs) (take i xs) ++ one_if (get_or bs i false) (get_or xs i d)) next (picked_suc bs xs i d lt e)

  -- ys began as xs. What is marked of the first i of xs stands in the first k places of ys, and from i on ys is as xs
  pub record KeepsInPlace (bs : List Bool) (xs ys : List X) (k i : ℕ) : Type 0 where
    pub front : take k ys ≡ items_where_true (take i bs) (take i xs)
    pub rest : drop i ys ≡ drop i xs
    pub behind : k ≤ i
    pub within : i ≤ length xs
    pub long : length ys ≡ length xs
    pub each : length bs ≡ length xs

  pub keeps_as : (bs : List Bool) (xs ys zs : List X) (k n i : ℕ) → zs ≡ ys → n ≡ k → KeepsInPlace bs xs ys k i → KeepsInPlace bs xs zs n i
  keeps_as bs xs ys zs k n i e f h = subst (λ (ws : List X). KeepsInPlace bs xs ws n i) (sym e) (subst (λ (m : ℕ). KeepsInPlace bs xs ys m i) (sym f) h)

  module _ (bs : List Bool) (xs ys : List X) (k i : ℕ) (h : KeepsInPlace bs xs ys k i) where
    pub keeps_all : length xs ≤ i → take k ys ≡ items_where_true bs xs
    keeps_all le = h.front ∙ ap (λ cs. items_where_true cs (take i xs)) (take_all i bs (omega (arith, h.each))) ∙ ap (items_where_true bs) (take_all i xs le)

    both : (d : X) → i < length xs → get_or ys i d ∷ drop (i + 1) ys ≡ get_or xs i d ∷ drop (i + 1) xs
    both d lt = sym (drop_more ys i d (omega (arith, h.long))) ∙ h.rest ∙ drop_more xs i d lt

    pub read_same : (d : X) → i < length xs → get_or xs i d ≡ get_or ys i d
    read_same d lt = sym (ap (λ l. get_or l 0 d) (both d lt))

    rest_same : (d : X) → i < length xs → drop (i + 1) ys ≡ drop (i + 1) xs
    rest_same d lt = ap (drop 1) (both d lt)

    step : (b : Bool) (d : X) → i < length xs → get_or bs i false ≡ b
        → items_where_true (take (i + 1) bs) (take (i + 1) xs) ≡ take k ys ++ one_if b (get_or ys i d)
    step b d lt e =
        picked_more bs xs i d lt h.each
        ∙ ap (λ l. l ++ one_if (get_or bs i false) (get_or xs i d)) (sym h.front)
        ∙ ap (λ c. take k ys ++ one_if c (get_or xs i d)) e
        ∙ ap (λ x. take k ys ++ one_if b x) (read_same d lt)

    pub keeps_no : (d : X) → i < length xs → get_or bs i false ≡ false → KeepsInPlace bs xs ys k (i + 1)
    keeps_no d lt e = record {
      front = sym (step false d lt e ∙ append-nil (take k ys));
      rest = rest_same d lt;
      behind = omega (arith, h.behind);
      within = omega arith;
      long = h.long;
      each = h.each;
    }

    moved : (zs : List X) (d : X) → i < length xs → get_or bs i false ≡ true → length zs ≡ length ys → take k zs ≡ take k ys
        → get_or zs k d ≡ get_or ys i d → drop (i + 1) zs ≡ drop (i + 1) ys → KeepsInPlace bs xs zs (k + 1) (i + 1)
    moved zs d lt e long front here rest = record {
      front = take_more zs k d (omega (arith, h.behind, h.long)) ∙ ap (λ l. l ++ get_or zs k d ∷ []) front ∙ ap (λ x. take k ys ++ x ∷ []) here ∙ sym (step true d lt e);
      rest = rest ∙ rest_same d lt;
      behind = omega (arith, h.behind);
      within = omega arith;
      long = long ∙ h.long;
      each = h.each;
    }

    pub keeps_swap : (zs : List X) (d : X) → i < length xs → get_or bs i false ≡ true → SwappedAt ys zs k i → KeepsInPlace bs xs zs (k + 1) (i + 1)
    keeps_swap zs d lt e s =
        let u = get_or ys i d in
        let v = get_or ys k d in
        moved zs d lt e
        (ap length (s.3 d) ∙ length-set _ i v ∙ length-set ys k u)
        (ap (take k) (s.3 d) ∙ take-set-le k _ i v h.behind ∙ take-set-le k ys k u (omega arith))
        (s.0 d)
        (ap (drop (i + 1)) (s.3 d) ∙ drop-set-lt (i + 1) _ i v (omega arith) ∙ drop-set-lt (i + 1) ys k u (omega (arith, h.behind)))

  -- where an element of the list of the marked ones comes from
  pub record ComesFrom (bs : List Bool) (xs : List X) (i : ℕ) (x : X) : Type 0 where
    pub number : ℕ
    pub at : slice_get xs number ≡ Some x
    pub marked : get_or bs number false ≡ true
    pub before : take i (items_where_true bs xs) ≡ items_where_true bs (take number xs)

  pub comes_from : (bs : List Bool) (xs : List X) (i : ℕ) (x : X) → slice_get (items_where_true bs xs) i ≡ Some x → ComesFrom bs xs i x
  comes_from [] xs i x e = absurd (cc)
  comes_from (b ∷ bs) [] i x e = absurd (cc)
  comes_from (true ∷ bs) (y ∷ xs) zero x e = record { number = 0; at = e; marked = refl; before = refl }
  comes_from (true ∷ bs) (y ∷ xs) (suc i) x e =
      let r = comes_from bs xs i x e in
      record { number = suc r.number; at = r.at; marked = r.marked; before = ap (λ l. y ∷ l) r.before }
  comes_from (false ∷ bs) (y ∷ xs) i x e =
      let r = comes_from bs xs i x e in
      record { number = suc r.number; at = r.at; marked = r.marked; before = r.before }

  -- where a marked one goes
  pub goes_to : (bs : List Bool) (xs : List X) (j : ℕ) (x : X) → slice_get xs j ≡ Some x → get_or bs j false ≡ true → slice_get (items_where_true bs xs) (place bs j) ≡ Some x
  goes_to [] xs j x e m = absurd (cc)
  goes_to (b ∷ bs) [] j x e m = absurd (cc)
  goes_to (true ∷ bs) (y ∷ xs) zero x e m = e
  goes_to (false ∷ bs) (y ∷ xs) zero x e m = absurd (cc)
  goes_to (true ∷ bs) (y ∷ xs) (suc j) x e m = goes_to bs xs j x e m
  goes_to (false ∷ bs) (y ∷ xs) (suc j) x e m = goes_to bs xs j x e m

  pub All-picked : (P : X → Type 0) (bs : List Bool) (xs : List X) → All P xs → All P (items_where_true bs xs)
  All-picked P [] xs h = All-nil P
  All-picked P (b ∷ bs) [] h = All-nil P
  All-picked P (true ∷ bs) (x ∷ xs) h = All-cons P x (items_where_true bs xs) (All-head P x xs h) (All-picked P bs xs (All-tail P x xs h))
  All-picked P (false ∷ bs) (x ∷ xs) h = All-picked P bs xs (All-tail P x xs h)

module _ {X Y : Type 0} (f : X → Y) where
  pub get_mapped : (xs : List X) (i : ℕ) (y : Y) → slice_get (map f xs) i ≡ Some y → (x : X) × (slice_get xs i ≡ Some x) × (f x ≡ y)
  get_mapped [] i y e = absurd (cc)
  get_mapped (x ∷ xs) zero y e = let same : f x ≡ y = cc in (x, refl, same)
  get_mapped (x ∷ xs) (suc i) y e = get_mapped xs i y e

  pub map_get : (xs : List X) (i : ℕ) (x : X) → slice_get xs i ≡ Some x → slice_get (map f xs) i ≡ Some (f x)
  map_get [] i x e = absurd (cc)
  map_get (y ∷ xs) zero x e = let same : y ≡ x = cc in ap (λ (z : X). Some (f z)) same
  map_get (y ∷ xs) (suc i) x e = map_get xs i x e
