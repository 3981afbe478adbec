-- Schedules and the values of the points.
use Rattle.std.proofs.Common.{refl, sym, ap, subst, arith, inl, inr, ◌∙◌, ◌≡◌, ◌<◌, ◌≤◌, ◌+◌, ℕ, zero, suc, List, [], ◌∷◌, ◌++◌, map, length, Bool, true, false, not, ℤ, pos, negsuc, ◌-ℤ◌, int_le, if◌then◌else◌, eq-or-lt_of_le, Some, slice_get, get_or, drop, append_assoc}
use Rattle.std.proofs.lemmas.Int.{ints}
use Rattle.std.proofs.lemmas.List.{get_or_append_left, get_or_push, get_or-append-add, length_push}
use Rattle.stn_core.specs.declared.literal.Literal.{Literal}
use Rattle.stn_core.specs.declared.named.NamedValue.{NamedValue}
use Rattle.stn_core.specs.declared.named.NamedValue.TheVariants.{Int, Truth}
use Rattle.stn_core.specs.Literal.{value_at, IsOver}
use Rattle.idl_node.specs.declared.sort.Sort.{Sort}
use Rattle.idl_node.specs.declared.sort.Sort.TheVariants as sort
use Rattle.idl_node.specs.Sorts.{IsIntPoint, IsBoolPoint, IsIntAtom, IsTrueAtom, IsFalseAtom, IsAtomKind, IsAtomFor}
use Rattle.idl_node.specs.Truth.{literal_truth, point_value, point_values}
use Rattle.clause_form.specs.Polarity.{is_among}
use Rattle.clause_form.specs.ClauseForm.{inner_count, stands}
use Rattle.clause_form.specs.Restricting.{named_value, restricted_by, restricted, IsOfSort, AreOfSorts}
use Rattle.idl_node.proofs.Makers.{negated_difference}
use Rattle.clause_form.proofs.Points.{inner_count_below}

-- ---- a restriction has values of the names' sorts

named_of_sort : (s : Sort) (n : ℤ) → IsOfSort s (named_value s n)
named_of_sort sort.Int n = tt
named_of_sort sort.Bool n = tt

restricted_by_of_sorts : (z : ℤ) (sorts : List Sort) (vs : List ℤ) → length sorts ≤ length vs → AreOfSorts sorts (restricted_by z sorts vs)
restricted_by_of_sorts z [] vs h = tt
restricted_by_of_sorts z (s ∷ sorts) [] h = absurd (omega arith)
restricted_by_of_sorts z (s ∷ sorts) (v ∷ vs) h = (named_of_sort s (v -ℤ z), restricted_by_of_sorts z sorts vs (omega arith))

pub restricted_of_sorts : (sorts : List Sort) (values : List ℤ) → length sorts < length values → AreOfSorts sorts (restricted sorts values)
restricted_of_sorts sorts [] h = absurd (omega arith)
restricted_of_sorts sorts (z ∷ vs) h = restricted_by_of_sorts z sorts vs (omega arith)

-- ---- an atom is as true on it

point_at : (z : ℤ) (sorts : List Sort) (vs : List ℤ) (k : ℕ) (s : Sort) → length sorts ≤ length vs → slice_get sorts k ≡ Some s → value_at (map point_value (restricted_by z sorts vs)) k ≡ point_value (named_value s (value_at vs k -ℤ z))
point_at z [] vs k s h e = absurd cc
point_at z (t ∷ sorts) [] k s h e = absurd (omega arith)
point_at z (t ∷ sorts) (v ∷ vs) zero s h e = let is : t ≡ s = cc in ap (λ (u : Sort). point_value (named_value u (v -ℤ z))) is
point_at z (t ∷ sorts) (v ∷ vs) (suc k) s h e = point_at z sorts vs k s (omega arith) e

true_point : (b : Bool) → int_le (point_value (Truth b) -ℤ pos 0) (pos 0) ≡ b
true_point true = refl
true_point false = refl

false_point : (b : Bool) → int_le (pos 0 -ℤ point_value (Truth b)) (negsuc 0) ≡ not b
false_point true = refl
false_point false = refl

module _ (z : ℤ) (sorts : List Sort) (vs : List ℤ) (enough : length sorts ≤ length vs) where
  after : List ℤ
  after = point_values (restricted_by z sorts vs)

  int_point : (p : ℕ) → IsIntPoint sorts p → value_at after p ≡ (value_at (z ∷ vs) p -ℤ z)
  unfolding after
  int_point zero h = omega (arith, ints)
  int_point (suc k) h = point_at z sorts vs k sort.Int enough h

  bool_point : (p : ℕ) → IsBoolPoint sorts p → value_at after p ≡ point_value (Truth (int_le (value_at (z ∷ vs) p -ℤ z) (pos 0)))
  unfolding after
  bool_point zero h = absurd h
  bool_point (suc k) h = point_at z sorts vs k sort.Bool enough h

  int_alike : (l : Literal) → IsIntAtom sorts l → literal_truth (z ∷ vs) l ≡ literal_truth after l
  int_alike l h =
      let ex = int_point l.x h.x in
      let ey = int_point l.y h.y in
      let e : (value_at (z ∷ vs) l.x -ℤ value_at (z ∷ vs) l.y) ≡ (value_at after l.x -ℤ value_at after l.y) = omega (arith, ints, ex, ey) in
      ap (λ (d : ℤ). int_le d l.c) e

  true_alike : (l : Literal) → IsTrueAtom sorts l → literal_truth (z ∷ vs) l ≡ literal_truth after l
  unfolding after
  true_alike l h =
      let b : Bool = int_le (value_at (z ∷ vs) l.x -ℤ z) (pos 0) in
      let before : literal_truth (z ∷ vs) l ≡ b = ap (λ (y : ℕ). int_le (value_at (z ∷ vs) l.x -ℤ value_at (z ∷ vs) y) l.c) h.y ∙ ap (λ (c : ℤ). int_le (value_at (z ∷ vs) l.x -ℤ z) c) h.c in
      let now : literal_truth after l ≡ b =
      ap (λ (y : ℕ). int_le (value_at after l.x -ℤ value_at after y) l.c) h.y ∙ ap (λ (c : ℤ). int_le (value_at after l.x -ℤ pos 0) c) h.c
      ∙ ap (λ (x : ℤ). int_le (x -ℤ pos 0) (pos 0)) (bool_point l.x h.x) ∙ true_point b in
      before ∙ sym now

  false_alike : (l : Literal) → IsFalseAtom sorts l → literal_truth (z ∷ vs) l ≡ literal_truth after l
  unfolding after
  false_alike l h =
      let b : Bool = int_le (value_at (z ∷ vs) l.y -ℤ z) (pos 0) in
      let before : literal_truth (z ∷ vs) l ≡ not b =
      ap (λ (x : ℕ). int_le (value_at (z ∷ vs) x -ℤ value_at (z ∷ vs) l.y) l.c) h.x ∙ ap (λ (c : ℤ). int_le (z -ℤ value_at (z ∷ vs) l.y) c) h.c
      ∙ negated_difference (value_at (z ∷ vs) l.y) z (pos 0) in
      let now : literal_truth after l ≡ not b =
      ap (λ (x : ℕ). int_le (value_at after x -ℤ value_at after l.y) l.c) h.x ∙ ap (λ (c : ℤ). int_le (pos 0 -ℤ value_at after l.y) c) h.c
      ∙ ap (λ (y : ℤ). int_le (pos 0 -ℤ y) (negsuc 0)) (bool_point l.y h.y) ∙ false_point b in
      before ∙ sym now

  alike_by : (l : Literal) → IsAtomKind sorts l → literal_truth (z ∷ vs) l ≡ literal_truth after l
  alike_by l h = elim h [ inl i ↦ int_alike l i | inr g ↦ elim g [ inl t ↦ true_alike l t | inr f ↦ false_alike l f ] ]

pub restricted_alike : (sorts : List Sort) (values : List ℤ) → length sorts < length values → (l : Literal) → IsAtomFor sorts l → literal_truth values l ≡ literal_truth (point_values (restricted sorts values)) l
unfolding after
restricted_alike sorts [] h l a = absurd (omega arith)
restricted_alike sorts (z ∷ vs) h l a = alike_by z sorts vs (omega arith) l a.kind

-- ---- a schedule's values, and fresh ones behind them

pub schedule_count : (sorts : List Sort) (schedule : List NamedValue) → AreOfSorts sorts schedule → length (map point_value schedule) ≡ length sorts
schedule_count [] [] h = refl
schedule_count [] (v ∷ vs) h = absurd h
schedule_count (s ∷ sorts) [] h = absurd h
schedule_count (s ∷ sorts) (v ∷ vs) h = ap suc (schedule_count sorts vs h.1)

back_to : (s : Sort) (v : NamedValue) → IsOfSort s v → named_value s (point_value v -ℤ pos 0) ≡ v
back_to sort.Int (Int n) h = let e : (n -ℤ pos 0) ≡ n = omega (arith, ints) in ap Int e
back_to sort.Int (Truth b) h = absurd h
back_to sort.Bool (Int n) h = absurd h
back_to sort.Bool (Truth true) h = refl
back_to sort.Bool (Truth false) h = refl

restricted_by_back : (sorts : List Sort) (schedule : List NamedValue) (more : List ℤ) → AreOfSorts sorts schedule → restricted_by (pos 0) sorts (map point_value schedule ++ more) ≡ schedule
restricted_by_back [] [] more h = refl
restricted_by_back [] (v ∷ vs) more h = absurd h
restricted_by_back (s ∷ sorts) [] more h = absurd h
restricted_by_back (s ∷ sorts) (v ∷ vs) more h =
    ap (λ (w : NamedValue). w ∷ restricted_by (pos 0) sorts (map point_value vs ++ more)) (back_to s v h.0) ∙ ap (λ (ws : List NamedValue). v ∷ ws) (restricted_by_back sorts vs more h.1)

pub restricted_back : (sorts : List Sort) (schedule : List NamedValue) (more : List ℤ) → AreOfSorts sorts schedule → restricted sorts (point_values schedule ++ more) ≡ schedule
restricted_back sorts schedule more h = restricted_by_back sorts schedule more h

pub longer_alike : (base more : List ℤ) (l : Literal) → IsOver (length base) l → literal_truth base l ≡ literal_truth (base ++ more) l
longer_alike base more l h =
    let ex : value_at (base ++ more) l.x ≡ value_at base l.x = get_or_append_left base more (pos 0) l.x h.x_in in
    let ey : value_at (base ++ more) l.y ≡ value_at base l.y = get_or_append_left base more (pos 0) l.y h.y_in in
    ap (λ (x : ℤ). int_le (x -ℤ value_at base l.y) l.c) (sym ex) ∙ ap (λ (y : ℤ). int_le (value_at (base ++ more) l.x -ℤ y) l.c) (sym ey)

-- ---- fresh values: 0 for an inner node that is true, else 1

abbrev pub fresh_value : Bool → ℤ
fresh_value true = pos 0
fresh_value false = pos 1

abbrev pub fresh_values : List ℕ → (ℕ → Bool) → ℕ → List ℤ
fresh_values inner at zero = []
fresh_values inner at (suc k) = if is_among k inner then fresh_values inner at k ++ fresh_value (at k) ∷ [] else fresh_values inner at k

count_by : (b : Bool) (xs : List ℤ) (x : ℤ) (n : ℕ) → length xs ≡ n → length (if b then xs ++ x ∷ [] else xs) ≡ (if b then n + 1 else n)
count_by true xs x n e = length_push xs x ∙ ap (λ (m : ℕ). m + 1) e
count_by false xs x n e = e

pub fresh_count : (inner : List ℕ) (at : ℕ → Bool) (n : ℕ) → length (fresh_values inner at n) ≡ inner_count inner n
fresh_count inner at zero = refl
fresh_count inner at (suc n) = count_by (is_among n inner) (fresh_values inner at n) (fresh_value (at n)) (inner_count inner n) (fresh_count inner at n)

more_by : (b : Bool) (xs : List ℤ) (x : ℤ) (i : ℕ) → i < length xs → value_at (if b then xs ++ x ∷ [] else xs) i ≡ value_at xs i
more_by true xs x i lt = get_or_append_left xs (x ∷ []) (pos 0) i lt
more_by false xs x i lt = refl

last_by : (b : Bool) (xs : List ℤ) (x : ℤ) (i : ℕ) → b ≡ true → length xs ≡ i → value_at (if b then xs ++ x ∷ [] else xs) i ≡ x
last_by true xs x i e len = get_or_push xs x (pos 0) i len
last_by false xs x i e len = absurd cc

pub fresh_at : (inner : List ℕ) (at : ℕ → Bool) (n k : ℕ) → k < n → is_among k inner ≡ true → value_at (fresh_values inner at n) (inner_count inner k) ≡ fresh_value (at k)
fresh_at inner at zero k lt e = absurd (omega arith)
fresh_at inner at (suc n) k lt e =
    let le : k ≤ n = omega arith in
    elim (eq-or-lt_of_le le) [
      | inl f ↦ subst (λ (j : ℕ). value_at (fresh_values inner at (suc n)) (inner_count inner j) ≡ fresh_value (at j)) (sym f)
          (last_by (is_among n inner) (fresh_values inner at n) (fresh_value (at n)) (inner_count inner n) (subst (λ (j : ℕ). is_among j inner ≡ true) f e) (fresh_count inner at n))
      | inr less ↦ (let count = fresh_count inner at n in
          let below = inner_count_below inner n k less e in
          more_by (is_among n inner) (fresh_values inner at n) (fresh_value (at n)) (inner_count inner k) (omega (arith, count, below)) ∙ fresh_at inner at n k less e)
    ]

fresh_stands : (b : Bool) → int_le (fresh_value b -ℤ pos 0) (pos 0) ≡ b
fresh_stands true = refl
fresh_stands false = refl

-- a fresh point says what its value was made of
pub fresh_says : (schedule : List NamedValue) (inner : List ℕ) (at : ℕ → Bool) (n k points : ℕ) → length (point_values schedule) ≡ points → k < n → is_among k inner ≡ true
    → literal_truth (point_values schedule ++ fresh_values inner at n) (stands (points + inner_count inner k)) ≡ at k
fresh_says schedule inner at n k points count lt e =
    let base : List ℤ = point_values schedule in
    let fresh : List ℤ = fresh_values inner at n in
    let value : value_at (base ++ fresh) (points + inner_count inner k) ≡ fresh_value (at k) =
    ap (λ (m : ℕ). value_at (base ++ fresh) (m + inner_count inner k)) (sym count) ∙ get_or-append-add base fresh (inner_count inner k) (pos 0) ∙ fresh_at inner at n k lt e in
    ap (λ (v : ℤ). int_le (v -ℤ pos 0) (pos 0)) value ∙ fresh_stands (at k)

-- ---- a restriction, name by name

restrict_step : (z : ℤ) (sorts : List Sort) (vs : List ℤ) (k : ℕ) (d : Sort) → k < length sorts → k < length vs
    → restricted_by z (drop k sorts) (drop k vs) ≡ named_value (get_or sorts k d) (value_at vs k -ℤ z) ∷ restricted_by z (drop (suc k) sorts) (drop (suc k) vs)
restrict_step z [] vs k d lt in_values = absurd (omega arith)
restrict_step z (s ∷ sorts) [] k d lt in_values = absurd (omega arith)
restrict_step z (s ∷ sorts) (v ∷ vs) zero d lt in_values = refl
restrict_step z (s ∷ sorts) (v ∷ vs) (suc k) d lt in_values = restrict_step z sorts vs k d (omega arith) (omega arith)

restrict_more : (z : ℤ) (sorts : List Sort) (vs : List ℤ) (k n m : ℕ) (d : Sort) (named more : List NamedValue) (one : NamedValue) (difference : ℤ) → k < length sorts → length sorts ≤ length vs → suc k ≡ n → suc n ≡ m
    → one ≡ named_value (get_or sorts k d) difference → difference ≡ (value_at (z ∷ vs) n -ℤ z) → more ≡ named ++ one ∷ []
    → named ++ restricted_by z (drop k sorts) (drop n (z ∷ vs)) ≡ restricted_by z sorts vs → more ++ restricted_by z (drop n sorts) (drop m (z ∷ vs)) ≡ restricted_by z sorts vs
restrict_more z sorts vs k n m d named more one difference lt enough is_n is_m is_one is_difference is_more so_far =
    let is_m_too : suc (suc k) ≡ m = omega arith in
    let rest : List NamedValue = restricted_by z (drop (suc k) sorts) (drop (suc k) vs) in
    let here : one ≡ named_value (get_or sorts k d) (value_at vs k -ℤ z) =
    is_one ∙ ap (λ (x : ℤ). named_value (get_or sorts k d) x) (is_difference ∙ ap (λ (i : ℕ). value_at (z ∷ vs) i -ℤ z) (sym is_n)) in
    let before : named ++ restricted_by z (drop k sorts) (drop k vs) ≡ restricted_by z sorts vs = subst (λ (i : ℕ). named ++ restricted_by z (drop k sorts) (drop i (z ∷ vs)) ≡ restricted_by z sorts vs) (sym is_n) so_far in
    let after_one : more ++ rest ≡ restricted_by z sorts vs =
    ap (λ (ws : List NamedValue). ws ++ rest) is_more ∙ append_assoc named (one ∷ []) rest ∙ ap (λ (w : NamedValue). named ++ w ∷ rest) here
    ∙ ap (λ (ws : List NamedValue). named ++ ws) (sym (restrict_step z sorts vs k d lt (omega arith))) ∙ before in
    subst (λ (i : ℕ). more ++ restricted_by z (drop n sorts) (drop i (z ∷ vs)) ≡ restricted_by z sorts vs) is_m_too
    (subst (λ (i : ℕ). more ++ restricted_by z (drop i sorts) (drop (suc k) vs) ≡ restricted_by z sorts vs) is_n after_one)

pub restrict_turn : (values : List ℤ) (sorts : List Sort) (k : ℕ) (d : Sort) (named more : List NamedValue) (one : NamedValue) (difference : ℤ) → length sorts < length values → k < length sorts
    → one ≡ named_value (get_or sorts k d) difference → difference ≡ (value_at values (k + 1) -ℤ value_at values 0) → more ≡ named ++ one ∷ []
    → named ++ restricted_by (value_at values 0) (drop k sorts) (drop (k + 1) values) ≡ restricted sorts values
    → more ++ restricted_by (value_at values 0) (drop (k + 1) sorts) (drop (k + 1 + 1) values) ≡ restricted sorts values
restrict_turn [] sorts k d named more one difference enough lt e f g h = absurd (omega arith)
restrict_turn (z ∷ vs) sorts k d named more one difference enough lt e f g h = restrict_more z sorts vs k (k + 1) (k + 1 + 1) d named more one difference lt (omega arith) (omega arith) (omega arith) e f g h
